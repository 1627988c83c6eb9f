-- Files that are read.
use Rattle.std.specs.Prelude.{◌≡◌, ℕ, List, [], ◌∷◌, Option, IfSome, Contains, take, string_bytes}
use Rattle.f3_places.specs.declared.source.Source.{Source}
use Rattle.f3_files.specs.declared.files.ReadFault.{ReadFault}
use Rattle.f3_files.specs.declared.files.ReadFault.TheVariants.{Unreadable, Memory}

-- a source has the name, and the bytes of the file of that name where they are known: at most one more than all sources may have
pub record IsOf (contents : List ℕ → Option (List ℕ)) (name : List ℕ) (source : Source) : Type 0 where
  pub named : string_bytes source.name ≡ name
  pub bytes : IfSome (contents name) (λ bytes. source.bytes.items ≡ take 16777217 bytes)

-- the sources are those of the files of these names, in their order
abbrev pub AreOf : (List ℕ → Option (List ℕ)) → List (List ℕ) → List Source → Type 0
AreOf contents [] [] = Unit {0}
AreOf contents [] (source ∷ sources) = ⊥
AreOf contents (name ∷ names) [] = ⊥
AreOf contents (name ∷ names) (source ∷ sources) = IsOf contents name source × AreOf contents names sources

-- a fault in reading the file of this name, or a want of memory
abbrev pub IsFaultOf : List ℕ → ReadFault → Type 0
IsFaultOf name (Unreadable unread) = unread.now ≡ name
IsFaultOf name Memory = Unit {0}

-- the file that cannot be read is one of these; or memory is wanting
abbrev pub IsFaultAmong : List (List ℕ) → ReadFault → Type 0
IsFaultAmong names (Unreadable unread) = Contains names unread.now
IsFaultAmong names Memory = Unit {0}
