-- Texts of several parts with words between them, and texts that are told by reading them.
use Rattle.std.proofs.Common.{◌≡◌, ℕ, Bool, true, List, ◌++◌, refl, sym, ap, subst, ◌∙◌}
use Rattle.std.proofs.lemmas.List.{append_cancel_left}
use Rattle.cg_laws.proofs.Separating.{Separates, anything, one, after, before, joined, on, same}

-- a word, a part, a word and a part
pub two : {A B : Type 0} {E F : List ℕ → Bool} {H : A → Type 0} {G : B → Type 0} {f : A → List ℕ} {g : B → List ℕ} (word gap : List ℕ) → ((u : List ℕ) → E (gap ++ u) ≡ true)
    → Separates E H f one → Separates F G g one → Separates F (λ (p : A × B). H p.0 × G p.1) (λ p. word ++ f p.0 ++ gap ++ g p.1) one
two {A = A} {B = B} word gap follows s t =
    same (λ p q e i. (e.0 i, e.1 i)) (joined {E = anything} (λ p u h e. refl) (before gap (λ u h. follows u) (after word (on (λ (p : A × B). p.0) s))) (on (λ (p : A × B). p.1) t))

-- a word and a part, three times
pub three : {A B C : Type 0} {E F J : List ℕ → Bool} {H : A → Type 0} {G : B → Type 0} {K : C → Type 0} {f : A → List ℕ} {g : B → List ℕ} {h : C → List ℕ} (word gap space : List ℕ)
    → ((u : List ℕ) → E (gap ++ u) ≡ true) → ((u : List ℕ) → F (space ++ u) ≡ true) → Separates E H f one → Separates F G g one → Separates J K h one
    → Separates J (λ (p : A × B × C). (H p.0 × G p.1) × K p.2) (λ p. word ++ f p.0 ++ gap ++ g p.1 ++ space ++ h p.2) one
three {A = A} {B = B} {C = C} word gap space follows next s t r =
    same (λ p q e i. (e.0.0 i, e.0.1 i, e.1 i))
    (joined {E = anything} (λ p u h e. refl)
    (before space (λ u h. next u) (joined {E = anything} (λ p u h e. refl) (before gap (λ u h. follows u) (after word (on (λ (p : A × B × C). p.0) s))) (on (λ (p : A × B × C). p.1) t)))
    (on (λ (p : A × B × C). p.2) r))

-- the value is read in the text
pub by_reading : {A : Type 0} {E : List ℕ → Bool} {H : A → Type 0} {f : A → List ℕ} (read : List ℕ → A) → ((x : A) (u : List ℕ) → H x → E u ≡ true → read (f x ++ u) ≡ x) → Separates E H f one
by_reading {f = f} read again = record {
  apart = λ x y u v hx hy eu ev e.
      let is : x ≡ y = sym (again x u hx eu) ∙ ap read e ∙ again y v hy ev in
      (is, append_cancel_left (f y) u v (subst (λ z. f z ++ u ≡ f y ++ v) is e));
}
