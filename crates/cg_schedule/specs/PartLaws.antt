-- How the spelling of a line's parts and their reading belong together.
use Rattle.std.proofs.Common.{◌≡◌, ℕ, List, [], ◌∷◌, ◌++◌, Result, Ok, Err, refl, sym, ap, ◌∙◌, append_assoc}
use Rattle.std.proofs.lemmas.List.{append-nil}
use Rattle.cg_schedule.specs.declared.fault.LineFault.{LineFault}
use Rattle.cg_schedule.specs.Reading.{Reading, go_on, ◌>>=◌, done, lifted, part, at_end, ended, whole}

-- what a reading gives
abbrev pub Given : Type 0 → Type 0
Given X = Result (X × List (List ℕ)) LineFault

-- what may stand behind a part: anything, or nothing
abbrev pub Anything : List (List ℕ) → Type 0
Anything left = Unit {0}

abbrev pub Nothing : List (List ℕ) → Type 0
Nothing left = left ≡ []

-- one token: what is spelled is read, and what is read is spelled so
pub record IsToken {X : Type 0} (Has : X → Type 0) (spell : X → List ℕ) (read : List ℕ → Result X LineFault) : Type 0 where
  pub again : (x : X) → Has x → read (spell x) ≡ Ok x
  pub found : (x : X) (token : List ℕ) → read token ≡ Ok x → Has x × (token ≡ spell x)

-- tokens that a value was read from
pub record Found {X Y : Type 0} (Has : X → Type 0) (spelled : X → List (List ℕ)) (into : X → Y) (y : Y) (old new : List (List ℕ)) : Type 0 where
  pub from : X
  pub is : into from ≡ y
  pub has : Has from
  pub tokens : old ≡ spelled from ++ new

-- tokens from which a reading makes a value: where what follows may follow they are read, and what is read was spelled so
pub record Makes {X Y : Type 0} (Ends : List (List ℕ) → Type 0) (Has : X → Type 0) (spelled : X → List (List ℕ)) (into : X → Y) (reading : Reading Y) : Type 0 where
  pub again : (x : X) (left : List (List ℕ)) → Ends left → Has x → reading (spelled x ++ left) ≡ Ok (into x, left)
  pub found : (y : Y) (old new : List (List ℕ)) → reading old ≡ Ok (y, new) → Found Has spelled into y old new

-- the value is what was spelled itself
abbrev pub IsPart : {X : Type 0} → (List (List ℕ) → Type 0) → (X → Type 0) → (X → List (List ℕ)) → Reading X → Type 0
IsPart {X} Ends Has spelled reading = Makes Ends Has spelled (λ (x : X). x) reading

-- ---- what a reading gave

abbrev pub read_as : {X : Type 0} → X → Result X LineFault
read_as x = Ok x

pub same_read : {X : Type 0} (x y : X) → read_as x ≡ read_as y → x ≡ y
same_read x y e = cc

abbrev pub gives : {X : Type 0} → X × List (List ℕ) → Given X
gives x = Ok x

pub same_pair : {X : Type 0} (x y : X × List (List ℕ)) → gives x ≡ gives y → x ≡ y
same_pair x y e = cc

pub given : {X : Type 0} (x y : X) (left new : List (List ℕ)) → gives (x, left) ≡ Ok (y, new) → (x ≡ y) × (left ≡ new)
given {X = X} x y left new e =
    let p = same_pair (x, left) (y, new) e in
    (ap (λ (q : X × List (List ℕ)). q.0) p, ap (λ (q : X × List (List ℕ)). q.1) p)

pub go_on-ok : {X Y : Type 0} (r : Given X) (next : X → Reading Y) (y : Y) (new : List (List ℕ)) → go_on r next ≡ Ok (y, new)
    → (x : X) × (mid : List (List ℕ)) × (r ≡ Ok (x, mid)) × (next x mid ≡ Ok (y, new))
go_on-ok (Ok x) next y new e = (x.0, x.1, refl, e)
go_on-ok (Err fault) next y new e = absurd cc

pub lifted-ok : {X : Type 0} (r : Result X LineFault) (left : List (List ℕ)) (x : X) (new : List (List ℕ)) → lifted r left ≡ Ok (x, new) → (r ≡ Ok x) × (left ≡ new)
lifted-ok {X = X} (Ok y) left x new e = let g = given y x left new e in (ap (λ (v : X). Ok v) g.0, g.1)
lifted-ok (Err fault) left x new e = absurd cc

pub ended-ok : {X : Type 0} (r : Given X) (x : X) → ended r ≡ Ok x → r ≡ Ok (x, [])
ended-ok {X = X} (Ok (y, [])) x e = let same : y ≡ x = value y x e in ap (λ (v : X). gives (v, [])) same where
  value : (a b : X) → at_end a [] ≡ Ok b → a ≡ b
  value a b f = cc
ended-ok (Ok (y, token ∷ left)) x e = absurd cc
ended-ok (Err fault) x e = absurd cc

-- ---- parts

-- a part that is one token
pub part-token : {X : Type 0} (Has : X → Type 0) (spell : X → List ℕ) (read : List ℕ → Result X LineFault) → IsToken Has spell read → IsPart Anything Has (λ (x : X). spell x ∷ []) (part read)
part-token {X = X} Has spell read token = record {
  again = λ x left ends has. rw (token.again x has) refl;
  found = by_tokens;
}
  where
    by_tokens : (y : X) (old new : List (List ℕ)) → part read old ≡ Ok (y, new) → Found Has (λ (x : X). spell x ∷ []) (λ (x : X). x) y old new
    by_tokens y [] new e = absurd cc
    by_tokens y (t ∷ left) new e =
        let g = lifted-ok (read t) left y new e in
        let f = token.found y t g.0 in
        record { from = y; is = refl; has = f.0; tokens = rw (f.1, g.1) refl }

-- a last part, and the value that is made of it
pub made : {X Y : Type 0} (Ends : List (List ℕ) → Type 0) (Has : X → Type 0) (spelled : X → List (List ℕ)) (into : X → Y) (reading : Reading X)
    → IsPart Ends Has spelled reading → Makes Ends Has spelled into (reading >>= λ x. done (into x))
made {X = X} {Y = Y} Ends Has spelled into reading is_part = record {
  again = λ x left ends has. rw (is_part.again x left ends has) refl;
  found = λ y old new e.
      let step = go_on-ok (reading old) (λ x. done (into x)) y new e in
      let f = is_part.found step.0 old step.1 step.2 in
      let g = given (into step.0) y step.1 new step.3 in
      record { from = f.from; is = ap into f.is ∙ g.0; has = f.has; tokens = f.tokens ∙ ap (λ (t : List (List ℕ)). spelled f.from ++ t) g.1 };
}

-- a first part, and the others behind it
pub bound : {A B Y : Type 0} (Ends : List (List ℕ) → Type 0) (HasA : A → Type 0) (first : A → List (List ℕ)) (reading : Reading A) (HasB : B → Type 0) (others : B → List (List ℕ)) (into : A → B → Y) (next : A → Reading Y)
    → IsPart Anything HasA first reading → ((a : A) → Makes Ends HasB others (into a) (next a))
    → Makes Ends (λ (x : A × B). HasA x.0 × HasB x.1) (λ (x : A × B). first x.0 ++ others x.1) (λ (x : A × B). into x.0 x.1) (reading >>= next)
bound {A = A} {B = B} {Y = Y} Ends HasA first reading HasB others into next is_part rest = record {
  again = λ x left ends has.
      let grouped : (first x.0 ++ others x.1) ++ left ≡ first x.0 ++ (others x.1 ++ left) = append_assoc (first x.0) (others x.1) left in
      let one = is_part.again x.0 (others x.1 ++ left) tt has.0 in
      rw (grouped, one) ((rest x.0).again x.1 left ends has.1);
  found = λ y old new e.
      let step = go_on-ok (reading old) next y new e in
      let f = is_part.found step.0 old step.1 step.2 in
      let g = (rest step.0).found y step.1 new step.3 in
      let same : into f.from g.from ≡ into step.0 g.from = ap (λ (a : A). into a g.from) f.is in
      let whole_is : old ≡ first f.from ++ (others g.from ++ new) = f.tokens ∙ ap (λ (t : List (List ℕ)). first f.from ++ t) g.tokens in
      record { from = (f.from, g.from); is = same ∙ g.is; has = (f.has, g.has); tokens = whole_is ∙ sym (append_assoc (first f.from) (others g.from) new) };
}

-- all of the tokens
pub whole-again : {X Y : Type 0} (Ends : List (List ℕ) → Type 0) (Has : X → Type 0) (spelled : X → List (List ℕ)) (into : X → Y) (reading : Reading Y) → Makes Ends Has spelled into reading
    → (x : X) → Ends [] → Has x → whole reading (spelled x) ≡ Ok (into x)
whole-again Ends Has spelled into reading makes x ends has =
    let e : reading (spelled x) ≡ Ok (into x, []) = rw (← append-nil (spelled x)) (makes.again x [] ends has) in
    rw e refl

pub whole-found : {X Y : Type 0} (Ends : List (List ℕ) → Type 0) (Has : X → Type 0) (spelled : X → List (List ℕ)) (into : X → Y) (reading : Reading Y) → Makes Ends Has spelled into reading
    → (y : Y) (ts : List (List ℕ)) → whole reading ts ≡ Ok y → (x : X) × (into x ≡ y) × Has x × (ts ≡ spelled x)
whole-found Ends Has spelled into reading makes y ts e =
    let f = makes.found y ts [] (ended-ok (reading ts) y e) in
    (f.from, f.is, f.has, f.tokens ∙ append-nil (spelled f.from))
