-- References in memory, as the meaning has them.
use Rattle.std.specs.Prelude.{ℕ, zero, suc, List, [], ◌∷◌, ◌++◌, map}
use Rattle.f3_meaning_whole.specs.Store as s
use Rattle.f3_meaning_whole.specs.Reference as m
use Rattle.f3_data.specs.declared.reference.Right.{Right}
use Rattle.f3_data.specs.declared.reference.Right.TheVariants as right
use Rattle.f3_data.specs.declared.reference.Maker.{Maker}
use Rattle.f3_data.specs.declared.reference.Maker.TheVariants as maker
use Rattle.f3_data.specs.declared.reference.Made.{Made}
use Rattle.f3_data.specs.declared.reference.Numbers.{Numbers}
use Rattle.f3_data.specs.declared.reference.Numbers.TheVariants as numbers
use Rattle.f3_data.specs.declared.reference.Section.{Section}
use Rattle.f3_data.specs.declared.reference.Reach.{Reach}
use Rattle.f3_data.specs.declared.reference.Reach.TheVariants as reach
use Rattle.f3_data.specs.declared.reference.Reference.{Reference}
use Rattle.f3_data.specs.Values.{spans_of}
use Rattle.f3_data.specs.Stores.{steps_of, path_of}

abbrev pub right_of : Right → m.Right
right_of right.Define = m.Define
right_of right.Read = m.Read

abbrev pub maker_of : Maker → m.Maker
maker_of (maker.Selected unit) = m.Selected unit
maker_of maker.Language = m.Language

abbrev pub made_of : Made → m.Made
made_of x = record { of = x.of; component = x.component; maker = maker_of x.maker }

-- so many numbers from one on
abbrev pub counted : ℕ → ℕ → List ℕ
counted i zero = []
counted i (suc n) = i ∷ counted (suc i) n

abbrev pub numbers_of : Numbers → List ℕ
numbers_of (numbers.First n) = counted 0 n
numbers_of (numbers.Listed ns) = ns.items

-- a part of an element of the array at a path
abbrev pub element_path : s.Path → List s.Step → ℕ → s.Path
element_path p tail n = record { root = p.root; steps = p.steps ++ s.Element n ∷ tail }

abbrev pub section_in : s.Path → Section → m.Reach
section_in p x = m.Many (spans_of x.spans.items) (map (element_path p (steps_of x.tail.items)) (numbers_of x.numbers))

abbrev pub reach_in : s.Path → Reach → m.Reach
reach_in p reach.One = m.One
reach_in p (reach.Many b) = section_in p b.value

abbrev pub reference_of : Reference → m.Reference
reference_of r = record {
  path = path_of r.path;
  reach = reach_in (path_of r.path) r.reach;
  of = r.of;
  right = right_of r.right;
  origin = r.origin;
  makers = map made_of r.makers.items;
}

abbrev pub references_of : List Reference → List m.Reference
references_of rs = map reference_of rs
