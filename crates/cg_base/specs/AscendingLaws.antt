-- What comes last into an ascending list comes at its end.
use Rattle.std.proofs.Common.{◌≡◌, ℕ, suc, ◌<◌, ◌≤◌, ◌≢◌, List, [], ◌∷◌, ◌++◌, refl, arith}
use Rattle.std.proofs.lemmas.Bool.{ne_eqb, le-ltb}
use Rattle.cg_base.specs.declared.action_id.ActionId.{ActionId}
use Rattle.cg_base.specs.declared.weighted.Weighted.{Weighted}
use Rattle.cg_base.specs.Sets.{with_member}
use Rattle.cg_base.specs.Weights.{ids, with_weight}
use Rattle.cg_base.specs.Cuts.{creators_in, with_top, raise}

-- all of them are below the number
abbrev pub AllBelow : ℕ → List ℕ → Type 0
AllBelow high [] = Unit {0}
AllBelow high (p ∷ ps) = (p < high) × AllBelow high ps

pub AllBelow-more : (ps : List ℕ) (high higher : ℕ) → high ≤ higher → AllBelow high ps → AllBelow higher ps
AllBelow-more [] high higher le below = tt
AllBelow-more (p ∷ ps) high higher le below = let lt : p < high = below.0 in
    (omega arith, AllBelow-more ps high higher le below.1)

pub AllBelow-push : (ps : List ℕ) (p high : ℕ) → p < high → AllBelow high ps → AllBelow high (ps ++ p ∷ [])
AllBelow-push [] p high lt below = (lt, tt)
AllBelow-push (q ∷ ps) p high lt below = (below.0, AllBelow-push ps p high lt below.1)

-- one more behind all of them
pub AllBelow-next : (ps : List ℕ) (p : ℕ) → AllBelow p ps → AllBelow (suc p) (ps ++ p ∷ [])
AllBelow-next ps p below = AllBelow-push ps p (suc p) (omega arith) (AllBelow-more ps p (suc p) (omega arith) below)

pub with_member-last : (set : List ℕ) (p : ℕ) → AllBelow p set → with_member set p ≡ set ++ p ∷ []
with_member-last [] p below = refl
with_member-last (q ∷ set) p below =
    let lt : q < p = below.0 in
    let apart : p ≢ q = λ e. omega arith in
    rw (ne_eqb p q apart, le-ltb p q (omega arith), with_member-last set p below.1) refl

pub with_weight-last : (set : List Weighted) (n : Weighted) → AllBelow n.id (ids set) →
    with_weight set n ≡ set ++ n ∷ []
with_weight-last [] n below = refl
with_weight-last (m ∷ set) n below =
    let lt : m.id < n.id = below.0 in
    let apart : n.id ≢ m.id = λ e. omega arith in
    rw (ne_eqb n.id m.id apart, le-ltb n.id m.id (omega arith), with_weight-last set n below.1) refl

with_top-last : (cut : List ActionId) (id : ActionId) → AllBelow id.creator (creators_in cut) →
    with_top cut id ≡ cut ++ id ∷ []
with_top-last [] id below = refl
with_top-last (t ∷ cut) id below =
    let lt : t.creator < id.creator = below.0 in
    let apart : t.creator ≢ id.creator = λ e. omega arith in
    rw (ne_eqb t.creator id.creator apart, le-ltb id.creator t.creator (omega arith), with_top-last cut id below.1) refl

pub raise-last : (cut : List ActionId) (id : ActionId) → 1 ≤ id.index → AllBelow id.creator (creators_in cut) →
    raise cut id ≡ cut ++ id ∷ []
raise-last cut id one below =
    let some : id.index ≢ 0 = λ e. omega arith in
    rw (ne_eqb id.index 0 some) (with_top-last cut id below)
