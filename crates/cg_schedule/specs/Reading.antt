-- How the parts of a line are read from the left: the value and the tokens left behind it, or the fault.
use Rattle.std.specs.Prelude.{◌≡◌, ◌≢◌, ℕ, List, [], ◌∷◌, Result, Ok, Err}
use Rattle.cg_schedule.specs.declared.fault.LineFault.{LineFault}
use Rattle.cg_schedule.specs.declared.fault.LineFault.TheVariants.{NoMemory}
use Rattle.cg_schedule.specs.Fault.{missing_part, extra_part}

-- a way of reading a value from the tokens that are left
abbrev pub Reading : Type 0 → Type 0
Reading X = List (List ℕ) → Result (X × List (List ℕ)) LineFault

-- what is done with the value that was read and the tokens behind it, where there was no fault
abbrev pub go_on : {X Y : Type 0} → Result (X × List (List ℕ)) LineFault → (X → Reading Y) →
    Result (Y × List (List ℕ)) LineFault
go_on (Ok x) next = next x.0 x.1
go_on (Err fault) next = Err fault

-- one part and then the next ones, which may depend on its value
infixl 10 ◌>>=◌
abbrev pub ◌>>=◌ : {X Y : Type 0} → Reading X → (X → Reading Y) → Reading Y
reading >>= next = λ left. go_on (reading left) next

-- no part is left to read: this is the value
abbrev pub done : {X : Type 0} → X → Reading X
done x left = Ok (x, left)

-- the next token as it stands
abbrev pub token_part : Reading (List ℕ)
token_part [] = Err missing_part
token_part (token ∷ left) = Ok (token, left)

-- a value that takes no part
abbrev pub lifted : {X : Type 0} → Result X LineFault → Reading X
lifted (Ok x) left = Ok (x, left)
lifted (Err fault) left = Err fault

-- a part that is one token
abbrev pub part : {X : Type 0} → (List ℕ → Result X LineFault) → Reading X
part read = token_part >>= λ token. lifted (read token)

-- the line ends behind the value
abbrev pub at_end : {X : Type 0} → X → List (List ℕ) → Result X LineFault
at_end x [] = Ok x
at_end x (token ∷ left) = Err extra_part

abbrev pub ended : {X : Type 0} → Result (X × List (List ℕ)) LineFault → Result X LineFault
ended (Ok x) = at_end x.0 x.1
ended (Err fault) = Err fault

-- the value that all of the tokens are
abbrev pub whole : {X : Type 0} → Reading X → List (List ℕ) → Result X LineFault
whole reading tokens = ended (reading tokens)

-- the call gave what reading gives, seen by a view, and stands behind it
abbrev pub Takes : {X Y : Type 0} → (X → Y) → Reading Y → List (List ℕ) → List (List ℕ) → Result X LineFault → Type 0
Takes view reading old new (Ok x) = reading old ≡ Ok (view x, new)
Takes view reading old new (Err fault) = reading old ≡ Err fault

-- the same of a call that takes memory: want of it says nothing of the line
abbrev pub TakesWithMemory : {X Y : Type 0} → (X → Y) → Reading Y → List (List ℕ) → List (List ℕ) →
    Result X LineFault → Type 0
TakesWithMemory view reading old new (Ok x) = reading old ≡ Ok (view x, new)
TakesWithMemory view reading old new (Err fault) = fault ≢ NoMemory → reading old ≡ Err fault
