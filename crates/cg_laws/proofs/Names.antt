-- Names and sets of replicas, and names of actions.
use Rattle.std.proofs.Common.{◌≡◌, ℕ, Bool, true, false, cond, eqb, List, [], ◌∷◌, ◌++◌, decimal, not, ◌||◌, refl, sym, ap, ◌∙◌, append_assoc, true≢false}
use Rattle.std.proofs.lemmas.Bool.{eqb-true}
use Rattle.std.specs.Prelude.{◌==◌, if◌then◌else◌}
use Rattle.cg_base.specs.declared.action_id.ActionId.{ActionId}
use Rattle.cg_base.specs.declared.weighted.Weighted.{Weighted}
use Rattle.cg_base.specs.Text.{set_text, weighted_text, weight_set_text, id_text, id_list_text}
use Rattle.cg_base.specs.Lists.{Each}
use Rattle.cg_text.specs.Numbers.{is_digit}
use Rattle.cg_short.specs.Short.{IsShort, IsShortId, IsShortMember}
use Rattle.cg_laws.proofs.Separating.{Separates, anything, begins_without, begins, one, same_first, after, before, joined, on, same, IsBetweenCommas, with_commas-apart}
use Rattle.cg_laws.proofs.Numbers.{no_digit, number, begins-digit, digit-other}

-- what begins with a number doesn't begin with a byte that is no digit
pub number-begins : (n byte : ℕ) (u : List ℕ) → IsShort n → is_digit byte ≡ false → begins byte (decimal n ++ u) ≡ false
number-begins n byte u short other =
    let first = begins-digit n short in
    ap (λ ds. begins byte (ds ++ u)) first.2 ∙ digit-other first.0 byte first.3 other

-- ---- sets

set_commas : IsBetweenCommas no_digit IsShort decimal 125
set_commas = record { comma = λ u. refl; closing = λ u. refl; other = λ n u h. number-begins n 125 u h refl; no_comma = refl }

pub set : Separates anything (Each IsShort) set_text one
set = after (123 ∷ []) (before (125 ∷ []) (λ u h. refl) (with_commas-apart set_commas number))

-- ---- sets with weights

-- no digit comes first, and no star
abbrev pub no_star : List ℕ → Bool
no_star u = begins_without (λ byte. is_digit byte || (byte == 42)) u

no_star-digit : (u : List ℕ) → no_star u ≡ true → no_digit u ≡ true
no_star-digit [] e = refl
no_star-digit (byte ∷ u) e = left (is_digit byte) (eqb byte 42) e
  where
    left : (a b : Bool) → not (a || b) ≡ true → not a ≡ true
    left true b e = e
    left false b e = refl

-- a weight behind its replica
abbrev weight_text : ℕ → List ℕ
weight_text weight = if weight == 1 then [] else 42 ∷ decimal weight

-- nothing that may follow begins with a star
star-none : {A : Type 0} (u rest : List ℕ) → no_star u ≡ true → u ≡ 42 ∷ rest → A
star-none u rest ends e = absurd (true≢false (sym ends ∙ ap no_star e))

weight-apart : (m n : ℕ) (p q : Bool) (u v : List ℕ) → IsShort m → IsShort n → eqb m 1 ≡ p → eqb n 1 ≡ q → no_star u ≡ true → no_star v ≡ true
    → cond p [] (42 ∷ decimal m) ++ u ≡ cond q [] (42 ∷ decimal n) ++ v → (m ≡ n) × (u ≡ v)
weight-apart m n true true u v hm hn em en eu ev e = (eqb-true m 1 em ∙ sym (eqb-true n 1 en), e)
weight-apart m n true false u v hm hn em en eu ev e = star-none u (decimal n ++ v) eu e
weight-apart m n false true u v hm hn em en eu ev e = star-none v (decimal m ++ u) ev (sym e)
weight-apart m n false false u v hm hn em en eu ev e = number.apart m n u v hm hn (no_star-digit u eu) (no_star-digit v ev) (same_first {A = ℕ} e).1

weight : Separates no_star IsShort weight_text one
weight = record { apart = λ m n u v hm hn eu ev e. weight-apart m n (eqb m 1) (eqb n 1) u v hm hn refl refl eu ev e }

weight-follows : (n : ℕ) (p : Bool) (u : List ℕ) → no_star u ≡ true → no_digit (cond p [] (42 ∷ decimal n) ++ u) ≡ true
weight-follows n true u ends = no_star-digit u ends
weight-follows n false u ends = refl

-- a replica with its weight, as one value
pub member : Separates no_star IsShortMember (λ m. weighted_text m.id m.weight) one
member = same (λ x y p i. record { id = p.0 i; weight = p.1 i })
    (joined (λ m u h ends. weight-follows m.weight (eqb m.weight 1) u ends) (on (λ (m : Weighted). m.id) number) (on (λ (m : Weighted). m.weight) weight))

member_commas : IsBetweenCommas no_star IsShortMember (λ m. weighted_text m.id m.weight) 125
member_commas = record { comma = λ u. refl; closing = λ u. refl; other = λ m u h. member-begins m u h; no_comma = refl }
  where
    member-begins : (m : Weighted) (u : List ℕ) → IsShortMember m → begins 125 (weighted_text m.id m.weight ++ u) ≡ false
    member-begins m u h = ap (begins 125) (append_assoc (decimal m.id) (weight_text m.weight) u) ∙ number-begins m.id 125 (weight_text m.weight ++ u) h.0 refl

pub weight_set : Separates anything (Each IsShortMember) weight_set_text one
weight_set = after (123 ∷ []) (before (125 ∷ []) (λ u h. refl) (with_commas-apart member_commas member))

-- ---- names of actions

pub name : Separates no_digit IsShortId id_text one
name = same (λ x y p i. record { creator = p.0 i; index = p.1 i }) (joined (λ x u h e. refl) (on (λ (id : ActionId). id.creator) number) (after (58 ∷ []) (on (λ (id : ActionId). id.index) number)))

name_commas : IsBetweenCommas no_digit IsShortId id_text 93
name_commas = record { comma = λ u. refl; closing = λ u. refl; other = λ id u h. name-begins id u h; no_comma = refl }
  where
    name-begins : (id : ActionId) (u : List ℕ) → IsShortId id → begins 93 (id_text id ++ u) ≡ false
    name-begins id u h = ap (begins 93) (append_assoc (decimal id.creator) (58 ∷ decimal id.index) u) ∙ number-begins id.creator 93 ((58 ∷ decimal id.index) ++ u) h.0 refl

pub name_list : Separates anything (Each IsShortId) id_list_text one
name_list = after (91 ∷ []) (before (93 ∷ []) (λ u h. refl) (with_commas-apart name_commas name))
