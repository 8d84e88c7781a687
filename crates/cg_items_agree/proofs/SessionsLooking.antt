-- What stands in a list of open sessions under a number, and what changes of tokens, and openings, make of it.
use Rattle.std.proofs.Common.{◌≡◌, ℕ, ◌==◌, eqb-true, eq-eqb, ◌&&◌, ◌||◌, is_some, find, List, [], ◌∷◌, map, Option, Some, None, option_map, Bool, true, false, if◌then◌else◌, refl, sym, ap, ◌∙◌, inl, inr}
use Rattle.std.proofs.lemmas.Bool.{cases_Bool}
use Rattle.cg_session.specs.Token.{Token, new_token}
use Rattle.cg_session_list.specs.declared.session.Session.{Session}
use Rattle.cg_session_list.specs.Sessions.{token_of, changed, changing, opened}

-- a value of the first token under the number
abbrev pub look : {X : Type 0} → (Token → X) → X → List Session → ℕ → X
look g none [] s = none
look g none (o ∷ open_) s = if o.id == s then g o.token else look g none open_ s

abbrev pub stands_in : List Session → ℕ → Bool
stands_in open_ s = look (λ t. true) false open_ s

-- no session stands there twice
abbrev pub Apart : List Session → Type 0
Apart [] = Unit {0}
Apart (o ∷ open_) = (stands_in open_ o.id ≡ false) × Apart open_

module _ {X : Type 0} where
  pub look-same : (f g : Token → X) (none : X) → ((k : Token) → f k ≡ g k) → (open_ : List Session) (s : ℕ) → look f none open_ s ≡ look g none open_ s
  look-same f g none same [] s = refl
  look-same f g none same (o ∷ open_) s = at (o.id == s) (look-same f g none same open_ s) where
    at : (b : Bool) → look f none open_ s ≡ look g none open_ s → (if b then f o.token else look f none open_ s) ≡ (if b then g o.token else look g none open_ s)
    at true rest = same o.token
    at false rest = rest

  -- who doesn't stand there has nothing
  pub look-none : (g : Token → X) (none : X) (open_ : List Session) (s : ℕ) → stands_in open_ s ≡ false → look g none open_ s ≡ none
  look-none g none [] s out = refl
  look-none g none (o ∷ open_) s out = at (o.id == s) out (look-none g none open_ s) where
    at : (b : Bool) → (if b then true else stands_in open_ s) ≡ false → (stands_in open_ s ≡ false → look g none open_ s ≡ none) → (if b then g o.token else look g none open_ s) ≡ none
    at true out rest = absurd (let clash : true ≡ false = out in cc)
    at false out rest = rest out

  pub look-token : (g : Token → X) (none : X) (open_ : List Session) (t : ℕ) (k : Token) → token_of open_ t ≡ Some k → look g none open_ t ≡ g k
  look-token g none [] t k is = absurd (let clash : None ≡ Some k = is in cc)
  look-token g none (o ∷ open_) t k is = at (o.id == t) (look-token g none open_ t k) is where
    later : Option Session
    later = find (λ (o : Session). o.id == t) open_

    at : (b : Bool) → (option_map (λ (o : Session). o.token) later ≡ Some k → look g none open_ t ≡ g k)
        → option_map (λ (o : Session). o.token) (if b then Some o else later) ≡ Some k → (if b then g o.token else look g none open_ t) ≡ g k
    at true rest is = let same : o.token ≡ k = cc in ap g same
    at false rest is = rest is

  -- a session more, of which the value is that of none
  pub look-new : (g : Token → X) (none : X) → g new_token ≡ none → (open_ : List Session) (t s : ℕ) → look g none (opened open_ t) s ≡ look g none open_ s
  look-new g none is [] t s = at (t == s) where
    at : (b : Bool) → (if b then g new_token else none) ≡ none
    at true = is
    at false = refl
  look-new g none is (o ∷ open_) t s = ap (λ r. if o.id == s then g o.token else r) (look-new g none is open_ t s)

  -- tokens that change, each by its session's number
  pub look-map : (f : Session → Session) (h : ℕ → Token → Token) → ((o : Session) → (f o).id ≡ o.id) → ((o : Session) → (f o).token ≡ h o.id o.token) →
      (g : Token → X) (none : X) (open_ : List Session) (s : ℕ) → look g none (map f open_) s ≡ look (λ k. g (h s k)) none open_ s
  look-map f h ids tokens g none [] s = refl
  look-map f h ids tokens g none (o ∷ open_) s =
      ap (λ n. if n == s then g (f o).token else look g none (map f open_) s) (ids o) ∙ at (o.id == s) refl (look-map f h ids tokens g none open_ s) where
        at : (b : Bool) → (o.id == s) ≡ b → look g none (map f open_) s ≡ look (λ k. g (h s k)) none open_ s →
            (if b then g (f o).token else look g none (map f open_) s) ≡ (if b then g (h s o.token) else look (λ k. g (h s k)) none open_ s)
        at true is rest = ap g (tokens o) ∙ ap (λ n. g (h n o.token)) (eqb-true o.id s is)
        at false is rest = rest

  look-const : (c none : X) (open_ : List Session) (s : ℕ) → look (λ k. c) none open_ s ≡ (if stands_in open_ s then c else none)
  look-const c none [] s = refl
  look-const c none (o ∷ open_) s = at (o.id == s) (look-const c none open_ s) where
    at : (b : Bool) → look (λ k. c) none open_ s ≡ (if stands_in open_ s then c else none) → (if b then c else look (λ k. c) none open_ s) ≡ (if (if b then true else stands_in open_ s) then c else none)
    at true rest = refl
    at false rest = rest

  pub look-set : (c none : X) (open_ : List Session) (s : ℕ) → stands_in open_ s ≡ true → look (λ k. c) none open_ s ≡ c
  look-set c none open_ s is = look-const c none open_ s ∙ ap (λ b. if b then c else none) is

pub stands-token : (open_ : List Session) (t : ℕ) → is_some (token_of open_ t) ≡ stands_in open_ t
stands-token [] t = refl
stands-token (o ∷ open_) t = at (o.id == t) (stands-token open_ t) where
  later : Option Session
  later = find (λ (o : Session). o.id == t) open_

  at : (b : Bool) → is_some (option_map (λ (o : Session). o.token) later) ≡ stands_in open_ t
      → is_some (option_map (λ (o : Session). o.token) (if b then Some o else later)) ≡ (if b then true else stands_in open_ t)
  at true rest = refl
  at false rest = rest

-- whether one of the list, or one more value, is so
pub look-or : (g : Token → Bool) (c : Bool) (open_ : List Session) (s : ℕ) → look (λ k. g k || c) false open_ s ≡ (look g false open_ s || (stands_in open_ s && c))
look-or g c [] s = refl
look-or g c (o ∷ open_) s = at (o.id == s) (look-or g c open_ s) where
  at : (b : Bool) → look (λ k. g k || c) false open_ s ≡ (look g false open_ s || (stands_in open_ s && c)) →
      (if b then g o.token || c else look (λ k. g k || c) false open_ s) ≡ ((if b then g o.token else look g false open_ s) || ((if b then true else stands_in open_ s) && c))
  at true rest = refl
  at false rest = rest

-- ---- changes

module _ (f : Session → Session) (ids : (o : Session) → (f o).id ≡ o.id) where
  pub stands-map : (open_ : List Session) (s : ℕ) → stands_in (map f open_) s ≡ stands_in open_ s
  stands-map [] s = refl
  stands-map (o ∷ open_) s = ap (λ n. if n == s then true else stands_in (map f open_) s) (ids o) ∙ ap (λ r. if o.id == s then true else r) (stands-map open_ s)

  pub apart-map : (open_ : List Session) → Apart open_ → Apart (map f open_)
  apart-map [] apart = tt
  apart-map (o ∷ open_) apart = (ap (stands_in (map f open_)) (ids o) ∙ stands-map open_ o.id ∙ apart.0, apart-map open_ apart.1)

-- one of them
module _ (t : ℕ) (change : Token → Token) where
  abbrev pub one_changed : Session → Session
  one_changed o = if o.id == t then changed change o else o

  abbrev pub change_at : ℕ → Token → Token
  change_at s k = if s == t then change k else k

  pub changed-id : (o : Session) → (one_changed o).id ≡ o.id
  changed-id o = at (o.id == t) where
    at : (b : Bool) → (if b then changed change o else o).id ≡ o.id
    at true = refl
    at false = refl

  pub changed-token : (o : Session) → (one_changed o).token ≡ change_at o.id o.token
  changed-token o = at (o.id == t) where
    at : (b : Bool) → (if b then changed change o else o).token ≡ (if b then change o.token else o.token)
    at true = refl
    at false = refl

  pub look-changing : {X : Type 0} (g : Token → X) (none : X) (open_ : List Session) (s : ℕ) → look g none (changing t change open_) s ≡ look (λ k. g (change_at s k)) none open_ s
  look-changing g none open_ s = look-map one_changed change_at changed-id changed-token g none open_ s

  pub stands-changing : (open_ : List Session) (s : ℕ) → stands_in (changing t change open_) s ≡ stands_in open_ s
  stands-changing open_ s = stands-map one_changed changed-id open_ s

  pub apart-changing : (open_ : List Session) → Apart open_ → Apart (changing t change open_)
  apart-changing open_ apart = apart-map one_changed changed-id open_ apart

-- ---- openings

pub stands-new : (open_ : List Session) (t s : ℕ) → stands_in (opened open_ t) s ≡ (stands_in open_ s || (t == s))
stands-new [] t s = at (t == s) where
  at : (b : Bool) → (if b then true else false) ≡ b
  at true = refl
  at false = refl
stands-new (o ∷ open_) t s = at (o.id == s) (stands-new open_ t s) where
  at : (b : Bool) → stands_in (opened open_ t) s ≡ (stands_in open_ s || (t == s)) → (if b then true else stands_in (opened open_ t) s) ≡ ((if b then true else stands_in open_ s) || (t == s))
  at true rest = refl
  at false rest = rest

pub other-way : (a b : ℕ) → (a == b) ≡ false → (b == a) ≡ false
other-way a b other = elim (cases_Bool (b == a)) [
  | inl is ↦ absurd (let clash : true ≡ false = sym (eq-eqb a b (sym (eqb-true b a is))) ∙ other in cc)
  | inr is ↦ is
]

pub apart-new : (open_ : List Session) (t : ℕ) → Apart open_ → stands_in open_ t ≡ false → Apart (opened open_ t)
apart-new [] t apart none = (refl, tt)
apart-new (o ∷ open_) t apart none = at (o.id == t) refl (apart-new open_ t apart.1) none where
  at : (b : Bool) → (o.id == t) ≡ b → (stands_in open_ t ≡ false → Apart (opened open_ t)) → (if b then true else stands_in open_ t) ≡ false
      → Apart (o ∷ opened open_ t)
  at true is rest none = absurd (let clash : true ≡ false = none in cc)
  at false is rest none = (stands-new open_ t o.id ∙ ap (λ b. b || (t == o.id)) apart.0 ∙ other-way o.id t is, rest none)
