-- When two texts tell their values apart, whatever follows each: how that is put together from parts.
use Rattle.std.proofs.Common.{◌≡◌, ℕ, Bool, true, false, not, ◌&&◌, eqb, ◌==◌, List, [], ◌∷◌, ◌++◌, flat_map, refl, sym, ap, ◌∙◌, append_assoc, true≢false}
use Rattle.std.proofs.lemmas.Bool.{eqb-false, eqb-true}
use Rattle.std.proofs.lemmas.List.{append_cancel_left}
use Rattle.cg_base.specs.Text.{with_commas}
use Rattle.cg_base.specs.Lists.{Each}

-- Values within limits, each printed, and with something behind it that may follow: where the whole is the same, so are
-- the values in what matters, and what follows is one.
pub record Separates {A : Type 0} (may_follow : List ℕ → Bool) (Has : A → Type 0) (text : A → List ℕ) (Same : A → A → Type 0) : Type 0 where
  pub apart : (x y : A) (u v : List ℕ) → Has x → Has y → may_follow u ≡ true → may_follow v ≡ true → text x ++ u ≡ text y ++ v → Same x y × (u ≡ v)

-- anything may follow
abbrev pub anything : List ℕ → Bool
anything u = true

-- a byte that passes the test doesn't come first
abbrev pub begins_without : (ℕ → Bool) → List ℕ → Bool
begins_without test [] = true
begins_without test (byte ∷ bytes) = not (test byte)

-- the byte comes first
abbrev pub begins : ℕ → List ℕ → Bool
begins byte [] = false
begins byte (first ∷ bytes) = first == byte

-- the value is one
abbrev pub one : {A : Type 0} → A → A → Type 0
one x y = x ≡ y

-- any value is within the limits
abbrev pub any : {A : Type 0} → A → Type 0
any x = Unit {0}

-- ---- small facts

-- the first byte, and the bytes behind it
pub same_first : {A : Type 0} {x y : A} {xs ys : List A} → x ∷ xs ≡ y ∷ ys → (x ≡ y) × (xs ≡ ys)
same_first e = (cc, cc)

pub left_true : (a b : Bool) → (a && b) ≡ true → a ≡ true
left_true true b e = refl
left_true false b e = absurd cc

pub right_true : (a b : Bool) → (a && b) ≡ true → b ≡ true
right_true true b e = e
right_true false b e = absurd cc

-- other numbers, and other first bytes
pub unequal : {A : Type 0} (m n : ℕ) → eqb m n ≡ false → m ≡ n → A
unequal m n other e = absurd (eqb-false m n other e)

pub other_first : {A : Type 0} {x y : ℕ} {xs ys : List ℕ} → eqb x y ≡ false → x ∷ xs ≡ y ∷ ys → A
other_first {x = x} {y = y} other e = unequal x y other (same_first e).0

pub each_any : {A : Type 0} (xs : List A) → Each any xs
each_any [] = tt
each_any (x ∷ xs) = (tt, each_any xs)

-- what begins with a byte begins with no other
pub begins-other : (a b : ℕ) (u : List ℕ) → eqb a b ≡ false → begins a u ≡ true → begins b u ≡ false
begins-other a b [] other is = refl
begins-other a b (first ∷ u) other is = rw (eqb-true first a is) other

-- what holds before a byte holds of what begins with it
pub begins-follows : (E : List ℕ → Bool) (byte : ℕ) → ((u : List ℕ) → E (byte ∷ u) ≡ true) → (u : List ℕ) → begins byte u ≡ true → E u ≡ true
begins-follows E byte before [] is = absurd (true≢false (sym is))
begins-follows E byte before (first ∷ u) is = rw (eqb-true first byte is) (before u)

-- ---- words before and behind

pub after : {A : Type 0} {E : List ℕ → Bool} {H : A → Type 0} {f : A → List ℕ} {P : A → A → Type 0} (word : List ℕ) → Separates E H f P → Separates E H (λ x. word ++ f x) P
after {f = f} word s = record {
  apart = λ x y u v hx hy eu ev e. s.apart x y u v hx hy eu ev (append_cancel_left word (f x ++ u) (f y ++ v) (sym (append_assoc word (f x) u) ∙ e ∙ append_assoc word (f y) v));
}

pub before : {A : Type 0} {E F : List ℕ → Bool} {H : A → Type 0} {f : A → List ℕ} {P : A → A → Type 0} (word : List ℕ) → ((u : List ℕ) → F u ≡ true → E (word ++ u) ≡ true) → Separates E H f P
    → Separates F H (λ x. f x ++ word) P
before {f = f} word follows s = record {
  apart = λ x y u v hx hy eu ev e.
      let g = s.apart x y (word ++ u) (word ++ v) hx hy (follows u eu) (follows v ev) (sym (append_assoc (f x) word u) ∙ e ∙ append_assoc (f y) word v) in
      (g.0, append_cancel_left word u v g.1);
}

-- ---- one text behind another

pub joined : {A : Type 0} {E F : List ℕ → Bool} {H G : A → Type 0} {f g : A → List ℕ} {P Q : A → A → Type 0} → ((x : A) (u : List ℕ) → G x → F u ≡ true → E (g x ++ u) ≡ true)
    → Separates E H f P → Separates F G g Q → Separates F (λ x. H x × G x) (λ x. f x ++ g x) (λ x y. P x y × Q x y)
joined {f = f} {g = g} follows s t = record {
  apart = λ x y u v hx hy eu ev e.
      let front = s.apart x y (g x ++ u) (g y ++ v) hx.0 hy.0 (follows x u hx.1 eu) (follows y v hy.1 ev) (sym (append_assoc (f x) (g x) u) ∙ e ∙ append_assoc (f y) (g y) v) in
      let rest = t.apart x y u v hx.1 hy.1 eu ev front.1 in
      ((front.0, rest.0), rest.1);
}

-- ---- of a part, within other limits, before less, and with less that matters

pub on : {A B : Type 0} {E : List ℕ → Bool} {H : B → Type 0} {f : B → List ℕ} {P : B → B → Type 0} (part : A → B) → Separates E H f P
    → Separates E (λ x. H (part x)) (λ x. f (part x)) (λ x y. P (part x) (part y))
on part s = record { apart = λ x y u v hx hy eu ev e. s.apart (part x) (part y) u v hx hy eu ev e }

pub within : {A : Type 0} {E : List ℕ → Bool} {H G : A → Type 0} {f : A → List ℕ} {P : A → A → Type 0} → ((x : A) → G x → H x) → Separates E H f P → Separates E G f P
within has s = record { apart = λ x y u v hx hy eu ev e. s.apart x y u v (has x hx) (has y hy) eu ev e }

pub same : {A : Type 0} {E : List ℕ → Bool} {H : A → Type 0} {f : A → List ℕ} {P Q : A → A → Type 0} → ((x y : A) → P x y → Q x y) → Separates E H f P → Separates E H f Q
same weaker s = record { apart = λ x y u v hx hy eu ev e. let g = s.apart x y u v hx hy eu ev e in (weaker x y g.0, g.1) }

-- ---- lists

-- what stands before or behind texts that all begin so
pub over_list : {A : Type 0} (E : List ℕ → Bool) (H : A → Type 0) (f : A → List ℕ) → ((x : A) (u : List ℕ) → H x → E (f x ++ u) ≡ true) → (xs : List A) (u : List ℕ) → Each H xs → E u ≡ true
    → E (flat_map f xs ++ u) ≡ true
over_list E H f begins [] u each eu = eu
over_list E H f begins (x ∷ xs) u each eu = ap E (append_assoc (f x) (flat_map f xs) u) ∙ begins x (flat_map f xs ++ u) each.0

-- Texts one after another, which begin as nothing does that may follow the last.
pub record IsListed {A : Type 0} (E F : List ℕ → Bool) (H : A → Type 0) (f : A → List ℕ) : Type 0 where
  pub starts : List ℕ → Bool
  pub item_begins : (x : A) (u : List ℕ) → H x → starts (f x ++ u) ≡ true
  pub end_begins : (u : List ℕ) → F u ≡ true → starts u ≡ false
  pub item_follows : (x : A) (u : List ℕ) → H x → E (f x ++ u) ≡ true
  pub end_follows : (u : List ℕ) → F u ≡ true → E u ≡ true

ends-begun : {A : Type 0} {E F : List ℕ → Bool} {H : A → Type 0} {f : A → List ℕ} → IsListed E F H f → (x : A) (u rest : List ℕ) → H x → F u ≡ true → u ≡ f x ++ rest → ⊥
ends-begun listed x u rest has ends e = true≢false (sym (listed.item_begins x rest has) ∙ ap listed.starts (sym e) ∙ listed.end_begins u ends)

lists-apart : {A : Type 0} {E F : List ℕ → Bool} {H : A → Type 0} {f : A → List ℕ} → IsListed E F H f → Separates E H f one → (xs ys : List A) (u v : List ℕ) → Each H xs → Each H ys → F u ≡ true → F v ≡ true
    → flat_map f xs ++ u ≡ flat_map f ys ++ v → (xs ≡ ys) × (u ≡ v)
lists-apart listed s [] [] u v hx hy eu ev e = (refl, e)
lists-apart {f = f} listed s [] (y ∷ ys) u v hx hy eu ev e = absurd (ends-begun listed y u (flat_map f ys ++ v) hy.0 eu (e ∙ append_assoc (f y) (flat_map f ys) v))
lists-apart {f = f} listed s (x ∷ xs) [] u v hx hy eu ev e = absurd (ends-begun listed x v (flat_map f xs ++ u) hx.0 ev (sym e ∙ append_assoc (f x) (flat_map f xs) u))
lists-apart {E = E} {H = H} {f = f} listed s (x ∷ xs) (y ∷ ys) u v hx hy eu ev e =
    let first =
    s.apart x y (flat_map f xs ++ u) (flat_map f ys ++ v) hx.0 hy.0 (over_list E H f listed.item_follows xs u hx.1 (listed.end_follows u eu)) (over_list E H f listed.item_follows ys v hy.1 (listed.end_follows v ev))
    (sym (append_assoc (f x) (flat_map f xs) u) ∙ e ∙ append_assoc (f y) (flat_map f ys) v) in
    let rest = lists-apart listed s xs ys u v hx.1 hy.1 eu ev first.1 in
    ((λ i. first.0 i ∷ rest.0 i), rest.1)

pub listed : {A : Type 0} {E F : List ℕ → Bool} {H : A → Type 0} {f : A → List ℕ} → IsListed E F H f → Separates E H f one → Separates F (Each H) (flat_map f) one
listed is s = record { apart = lists-apart is s }

-- ---- with commas between

-- what is printed begins with neither the comma nor the byte that closes, and both may follow it
pub record IsBetweenCommas {A : Type 0} (E : List ℕ → Bool) (H : A → Type 0) (f : A → List ℕ) (close : ℕ) : Type 0 where
  pub comma : (u : List ℕ) → E (44 ∷ u) ≡ true
  pub closing : (u : List ℕ) → E (close ∷ u) ≡ true
  pub other : (x : A) (u : List ℕ) → H x → begins close (f x ++ u) ≡ false
  pub no_comma : eqb close 44 ≡ false

module _ {A : Type 0} {E : List ℕ → Bool} {H : A → Type 0} {f : A → List ℕ} {close : ℕ} (is : IsBetweenCommas E H f close) (s : Separates E H f one) where
  behind-first : Separates (begins close) (Each H) (flat_map (λ y. 44 ∷ f y)) one
  behind-first = listed (record {
    starts = begins 44;
    item_begins = λ x u h. refl;
    end_begins = λ u closes. begins-other close 44 u is.no_comma closes;
    item_follows = λ x u h. is.comma (f x ++ u);
    end_follows = begins-follows E close is.closing;
  }) (after (44 ∷ []) s)

  -- behind each the comma or the end
  rest-follows : (xs : List A) (u : List ℕ) → Each H xs → begins close u ≡ true → E (flat_map (λ y. 44 ∷ f y) xs ++ u) ≡ true
  rest-follows xs u each closes = over_list E H (λ y. 44 ∷ f y) (λ x w h. is.comma (f x ++ w)) xs u each (begins-follows E close is.closing u closes)

  first-begun : {B : Type 0} (x : A) (xs : List A) (u v : List ℕ) → H x → begins close v ≡ true → (f x ++ flat_map (λ y. 44 ∷ f y) xs) ++ u ≡ v → B
  first-begun x xs u v has closes e =
      absurd (true≢false (sym closes ∙ ap (begins close) (sym e ∙ append_assoc (f x) (flat_map (λ y. 44 ∷ f y) xs) u) ∙ is.other x (flat_map (λ y. 44 ∷ f y) xs ++ u) has))

  commas-apart : (xs ys : List A) (u v : List ℕ) → Each H xs → Each H ys → begins close u ≡ true → begins close v ≡ true → with_commas f xs ++ u ≡ with_commas f ys ++ v → (xs ≡ ys) × (u ≡ v)
  commas-apart [] [] u v hx hy eu ev e = (refl, e)
  commas-apart [] (y ∷ ys) u v hx hy eu ev e = first-begun y ys v u hy.0 eu (sym e)
  commas-apart (x ∷ xs) [] u v hx hy eu ev e = first-begun x xs u v hx.0 ev e
  commas-apart (x ∷ xs) (y ∷ ys) u v hx hy eu ev e =
      let first =
      s.apart x y (flat_map (λ y. 44 ∷ f y) xs ++ u) (flat_map (λ y. 44 ∷ f y) ys ++ v) hx.0 hy.0 (rest-follows xs u hx.1 eu) (rest-follows ys v hy.1 ev)
      (sym (append_assoc (f x) (flat_map (λ y. 44 ∷ f y) xs) u) ∙ e ∙ append_assoc (f y) (flat_map (λ y. 44 ∷ f y) ys) v) in
      let others = behind-first.apart xs ys u v hx.1 hy.1 eu ev first.1 in
      ((λ i. first.0 i ∷ others.0 i), others.1)

  pub with_commas-apart : Separates (begins close) (Each H) (with_commas f) one
  with_commas-apart = record { apart = commas-apart }
