-- Writers that know whether they have refused.
use Rattle.std.specs.Prelude.{◌≡◌, ℕ, Bool, true, List, ◌++◌, Option}
use Rattle.std.specs.Io.KnownBytes.{Appends}
use Rattle.f3_output.specs.declared.output.Output.{Output}

abbrev pub writer_of : {W : Type 0} → Output W → W
writer_of output = output.writer

-- the writer has failed, or taken none of the bytes that it was given
abbrev pub is_refused : {W : Type 0} → Output W → Bool
is_refused output = output.refused

-- what an output shows: the bytes that its writer holds, where it tells them, and whether it has refused
pub record State : Type 0 where
  pub bytes : Option (List ℕ)
  pub refused : Bool

abbrev pub state_of : {W : Type 0} → (W → Option (List ℕ)) → Output W → State
state_of contents output = record { bytes = contents (writer_of output); refused = is_refused output }

-- these bytes were written, and nothing was refused
pub record Wrote (old new : State) (bytes : List ℕ) : Type 0 where
  pub appended : Appends old.bytes new.bytes bytes
  pub same : new.refused ≡ old.refused

-- a front of these bytes was written, and the writer has refused
pub record Faulted (old new : State) (bytes : List ℕ) : Type 0 where
  pub front : List ℕ
  pub rest : List ℕ
  pub whole : bytes ≡ front ++ rest
  pub appended : Appends old.bytes new.bytes front
  pub refused : new.refused ≡ true
