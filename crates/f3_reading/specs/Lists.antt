-- What reading a list gives, where each of its elements is read by one reader.
use Rattle.std.specs.Prelude.{◌≡◌, ◌<◌, ◌⊎◌, List, [], ◌∷◌, length, Option, Some, None, Result, Ok, Err}
use Rattle.std.specs.Borrow.{Bor}
use Rattle.std.specs.Global.{Vec}
use Rattle.f3_words.specs.declared.error.ReadError.{ReadError}
use Rattle.f3_words.specs.declared.error.ReadError.TheVariants.{Memory, NoForm}
use Rattle.f3_words.specs.declared.item.Word.{Word}
use Rattle.f3_words.specs.declared.item.Word.TheVariants.{Comma}
use Rattle.f3_words.specs.declared.item.Item.{Item}
use Rattle.f3_reading.specs.Parts.{EatsWord, Lacks}

-- what a reader of an element may answer at these tokens
abbrev pub Reader : Type 0 → Type 1
Reader T = List Item → Result (T × Bor (List Item)) ReadError → Type 0

-- an element that is read takes tokens
abbrev pub Shortens : {T : Type 0} → Reader T → Type 0
Shortens {T} Reads = (ts : List Item) (x : T) (r : Bor (List Item)) → Reads ts (Ok (x, r)) → length r.now < length ts

-- the reader reads these elements one after the other, with commas between them, and no comma stands behind them
abbrev pub Lists : {T : Type 0} → Reader T → List T → List Item → List Item → Type 0
Lists Reads [] ts r = ⊥
Lists Reads (x ∷ []) ts r = (a : Bor (List Item)) × Reads ts (Ok (x, a)) × (a.now ≡ r) × Lacks Comma r
Lists Reads (x ∷ y ∷ xs) ts r = (a : Bor (List Item)) × (b : List Item) × Reads ts (Ok (x, a)) × EatsWord Comma a.now b × Lists Reads (y ∷ xs) b r

-- the reader reads elements up to one that it refuses
abbrev pub Stops : {T : Type 0} → Reader T → List T → List Item → Type 0
Stops Reads [] ts = Reads ts (Err NoForm)
Stops {T} Reads (x ∷ xs) ts = (a : Bor (List Item)) × (b : List Item) × Reads ts (Ok (x, a)) × EatsWord Comma a.now b × Stops Reads xs b

abbrev pub ReadsList : {T : Type 0} → Reader T → Result (Vec T × Bor (List Item)) ReadError → List Item → Type 0
ReadsList Reads (Ok x) ts = Lists Reads x.0.items ts x.1.now
ReadsList Reads (Err Memory) ts = Unit {0}
ReadsList {T} Reads (Err NoForm) ts = (xs : List T) × Stops Reads xs ts

-- what reading a list answers
pub record AreRead {T : Type 0} (Reads : Reader T) (result : Result (Vec T × Bor (List Item)) ReadError) (ts : List Item) : Type 0 where
  pub is : ReadsList Reads result ts

-- ---- a part behind a word, and a list behind a comma

abbrev pub ReadsPerhaps : {T : Type 0} → Word → Reader T → Result (Option T × Bor (List Item)) ReadError → List Item → Type 0
ReadsPerhaps w Reads (Ok (None, r)) ts = (r.now ≡ ts) × Lacks w ts
ReadsPerhaps w Reads (Ok (Some x, r)) ts = (a : List Item) × EatsWord w ts a × Reads a (Ok (x, r))
ReadsPerhaps w Reads (Err Memory) ts = Unit {0}
ReadsPerhaps w Reads (Err NoForm) ts = (a : List Item) × EatsWord w ts a × Reads a (Err NoForm)

pub record MayBeRead {T : Type 0} (w : Word) (Reads : Reader T) (result : Result (Option T × Bor (List Item)) ReadError) (ts : List Item) : Type 0 where
  pub is : ReadsPerhaps w Reads result ts

abbrev pub ReadsOthers : {T : Type 0} → Reader T → Result (Vec T × Bor (List Item)) ReadError → List Item → Type 0
ReadsOthers Reads (Ok x) ts = ((a : List Item) × EatsWord Comma ts a × AreRead Reads (Ok x) a) ⊎ ((x.0.items ≡ []) × (x.1.now ≡ ts) × Lacks Comma ts)
ReadsOthers Reads (Err Memory) ts = Unit {0}
ReadsOthers Reads (Err NoForm) ts = (a : List Item) × EatsWord Comma ts a × AreRead Reads (Err NoForm) a

pub record OthersAreRead {T : Type 0} (Reads : Reader T) (result : Result (Vec T × Bor (List Item)) ReadError) (ts : List Item) : Type 0 where
  pub is : ReadsOthers Reads result ts
