-- The keywords (3.3, 2.5.2), by their lengths.
use Rattle.std.specs.Prelude.{ℕ, List, [], ◌∷◌, ◌++◌, codes}
use Rattle.f3_words.specs.declared.item.Keyword.{Keyword}
use Rattle.f3_words.specs.declared.item.Keyword.TheVariants.{Plain, Allocatable, Allocate, Associate, Call, Case, Contains, Continue, Cycle}
use Rattle.f3_words.specs.declared.item.Keyword.TheVariants.{Deallocate, Default, Dimension, Do, Else, ElseIf, End, EndAssociate, EndDo, EndFunction}
use Rattle.f3_words.specs.declared.item.Keyword.TheVariants.{EndIf, EndModule, EndProgram, EndSelect, EndSubroutine, EndType, Exit, Final}
use Rattle.f3_words.specs.declared.item.Keyword.TheVariants.{Function, If, Implicit, In, InOut, Integer, Intent, Kind, Logical, Module}
use Rattle.f3_words.specs.declared.item.Keyword.TheVariants.{NoneWord, Only, Out, Parameter, Print, Private, Program, Protected, Public}
use Rattle.f3_words.specs.declared.item.Keyword.TheVariants.{Pure, Recursive, ResultWord, Return, Save, Select, SelectCase, Stat, Stop}
use Rattle.f3_words.specs.declared.item.Keyword.TheVariants.{Subroutine, Then, «Type», Use, While}
use Rattle.f3_words.specs.Tables.{found}

abbrev pub of_2 : List (List ℕ × Keyword)
of_2 = (codes "do", Do) ∷ (codes "if", If) ∷ (codes "in", In) ∷ []

abbrev pub of_3 : List (List ℕ × Keyword)
of_3 = (codes "end", End) ∷ (codes "out", Out) ∷ (codes "use", Use) ∷ []

abbrev pub of_4 : List (List ℕ × Keyword)
of_4 = (codes "call", Call) ∷ (codes "case", Case) ∷ (codes "else", Else) ∷ (codes "exit", Exit)
    ∷ (codes "kind", Kind) ∷ (codes "none", NoneWord) ∷ (codes "only", Only) ∷ (codes "pure", Pure) ∷ (codes "save", Save)
    ∷ (codes "stat", Stat) ∷ (codes "stop", Stop) ∷ (codes "then", Then) ∷ (codes "type", «Type») ∷ []

-- words that may be joined (3.3.1.1) stand among the others
abbrev pub of_5 : List (List ℕ × Keyword)
of_5 = (codes "cycle", Cycle) ∷ (codes "enddo", EndDo) ∷ (codes "endif", EndIf) ∷ (codes "final", Final)
    ∷ (codes "inout", InOut) ∷ (codes "print", Print) ∷ (codes "while", While) ∷ []

abbrev pub of_6 : List (List ℕ × Keyword)
of_6 = (codes "elseif", ElseIf) ∷ (codes "intent", Intent) ∷ (codes "module", Module) ∷ (codes "public", Public)
    ∷ (codes "result", ResultWord) ∷ (codes "return", Return) ∷ (codes "select", Select) ∷ []

abbrev pub of_7 : List (List ℕ × Keyword)
of_7 = (codes "default", Default) ∷ (codes "endtype", EndType) ∷ (codes "integer", Integer)
    ∷ (codes "logical", Logical) ∷ (codes "private", Private) ∷ (codes "program", Program) ∷ []

abbrev pub of_8 : List (List ℕ × Keyword)
of_8 = (codes "allocate", Allocate) ∷ (codes "contains", Contains) ∷ (codes "continue", Continue)
    ∷ (codes "function", Function) ∷ (codes "implicit", Implicit) ∷ []

abbrev pub of_9 : List (List ℕ × Keyword)
of_9 = (codes "associate", Associate) ∷ (codes "dimension", Dimension) ∷ (codes "endmodule", EndModule) ∷ (codes "endselect", EndSelect)
    ∷ (codes "parameter", Parameter) ∷ (codes "protected", Protected) ∷ (codes "recursive", Recursive) ∷ []

abbrev pub of_10 : List (List ℕ × Keyword)
of_10 = (codes "deallocate", Deallocate) ∷ (codes "endprogram", EndProgram) ∷ (codes "selectcase", SelectCase)
    ∷ (codes "subroutine", Subroutine) ∷ []

abbrev pub of_11 : List (List ℕ × Keyword)
of_11 = (codes "allocatable", Allocatable) ∷ (codes "endfunction", EndFunction) ∷ []

abbrev pub of_12 : List (List ℕ × Keyword)
of_12 = (codes "endassociate", EndAssociate) ∷ []

abbrev pub of_13 : List (List ℕ × Keyword)
of_13 = (codes "endsubroutine", EndSubroutine) ∷ []

abbrev pub keywords : List (List ℕ × Keyword)
keywords = of_2 ++ (of_3 ++ (of_4 ++ (of_5 ++ (of_6 ++ (of_7 ++ (of_8 ++ (of_9 ++ (of_10 ++ (of_11 ++ (of_12 ++ of_13))))))))))

-- the keyword that a name in lower case may be
unfoldable pub keyword_of : List ℕ → Keyword
keyword_of text = found keywords Plain text
