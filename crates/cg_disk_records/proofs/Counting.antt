-- The reds of all creators, counted in one pass.
use Rattle.std.proofs.Common.{◌≡◌, ◌≢◌, ℕ, suc, ◌+◌, ◌≤◌, ◌<◌, max, Bool, true, false, cond, ◌&&◌, eqb, ltb, leb, List, [], ◌∷◌, length, drop, get_or, refl, sym, ap, ◌∙◌, arith}
use Rattle.std.specs.Prelude.{Some, None}
use Rattle.std.specs.List.{list_all}
use Rattle.std.proofs.lemmas.Bool.{eqb-true}
use Rattle.cg_base.specs.declared.action_id.ActionId.{ActionId}
use Rattle.cg_base.specs.Cuts.{index_in, raise}
use Rattle.cg_base.specs.CutLaws.{index_in-raise}
use Rattle.cg_base.specs.CutLimits.{IsCut}
use Rattle.cg_base.specs.Sets.{IsId}
use Rattle.cg_base.specs.SetLaws.{each-replica}
use Rattle.cg_base.specs.Replicas.{every_replica}
use Rattle.cg_action.specs.declared.action.Action.{Action}
use Rattle.cg_disk_records.specs.Parts.{next_index, reds_count}
use Rattle.cg_disk_records.proofs.Agreeing.{counts-left, counts-stop, counts-end}
use Rattle.cg_base.specs.EachLaws.{list_all_same}

regroup : (a b c d : Bool) → ((a && b) && (c && d)) ≡ ((a && c) && (b && d))
regroup true true c d = regroup-right c d
  where
    regroup-right : (c d : Bool) → (c && d) ≡ (c && d)
    regroup-right c d = refl
regroup true false true d = refl
regroup true false false d = refl
regroup false b c d = refl

-- two tests of each are one test and another
pub all-both : (f g : ℕ → Bool) (qs : List ℕ) → list_all (λ q. f q && g q) qs ≡ (list_all f qs && list_all g qs)
all-both f g [] = refl
all-both f g (q ∷ qs) = ap (λ b. (f q && g q) && b) (all-both f g qs) ∙ regroup (f q) (g q) (list_all f qs) (list_all g qs)

-- a test that one replica fails
fails : (f : ℕ → Bool) (p : ℕ) → IsId p → f p ≡ false → list_all f every_replica ≡ false
fails f p is none = by (list_all f every_replica) refl
  where
    by : (b : Bool) → list_all f every_replica ≡ b → list_all f every_replica ≡ false
    by true e = absurd (let never : true ≡ false = sym (each-replica f p e is) ∙ none in cc)
    by false e = e

module _ (a : Action) (at to : List ActionId) where
  -- its creator's next one, which isn't past the end, raises its creator alone
  next-raised : IsCut at → index_in at a.id.creator < index_in to a.id.creator → a.id.index ≡ index_in at a.id.creator + 1 → (q : ℕ) → next_index a q (index_in at q) (index_in to q) ≡ Some (index_in (raise at a.id) q)
  next-raised is lt next q = by (eqb a.id.creator q) refl
    where
      by : (b : Bool) → eqb a.id.creator q ≡ b
          → cond b (cond (ltb (index_in at q) (index_in to q) && eqb a.id.index (suc (index_in at q))) (Some (suc (index_in at q))) None) (Some (index_in at q)) ≡ Some (index_in (raise at a.id) q)
      by true e =
          let same : a.id.creator ≡ q = eqb-true _ _ e in
          let one : a.id.index ≡ index_in at q + 1 = next ∙ ap (λ p. index_in at p + 1) same in
          let below : ltb (index_in at q) (index_in to q) ≡ true = subst-lt q same lt in
          let index : eqb a.id.index (suc (index_in at q)) ≡ true = grind (arith, one) in
          let raised : index_in (raise at a.id) q ≡ suc (index_in at q) = index_in-raise at a.id q is ∙ ap (λ b. cond b (max (index_in at q) a.id.index) (index_in at q)) e ∙ omega (arith, one) in
          rw (below, index, raised) refl
        where
          subst-lt : (p : ℕ) → a.id.creator ≡ p → index_in at a.id.creator < index_in to a.id.creator → ltb (index_in at p) (index_in to p) ≡ true
          subst-lt p same lt = ap (λ p. ltb (index_in at p) (index_in to p)) (sym same) ∙ grind (arith, lt)
      by false e = ap Some (sym (index_in-raise at a.id q is ∙ ap (λ b. cond b (max (index_in at q) a.id.index) (index_in at q)) e))

  module _ (reds : List Action) (i : ℕ) (lt : i < length reds) (here : get_or reds i a ≡ a) where
    pub reds-left : IsCut at → index_in at a.id.creator < index_in to a.id.creator → a.id.index ≡ index_in at a.id.creator + 1
        → list_all (reds_count (drop (i + 1) reds) (raise at a.id) to) every_replica ≡ list_all (reds_count (drop i reds) at to) every_replica
    reds-left is below next =
        list_all_same (reds_count (drop (i + 1) reds) (raise at a.id) to) (reds_count (drop i reds) at to)
        (λ q. counts-left reds i a q (index_in at q) (index_in to q) (index_in (raise at a.id) q) lt here (next-raised is below next q)) every_replica

    reds-stop : IsId a.id.creator → (ltb (index_in at a.id.creator) (index_in to a.id.creator) && eqb a.id.index (suc (index_in at a.id.creator))) ≡ false
        → list_all (reds_count (drop i reds) at to) every_replica ≡ false
    reds-stop is wrong =
        let p = a.id.creator in
        let own : eqb p p ≡ true = grind arith in
        let none : next_index a p (index_in at p) (index_in to p) ≡ None = rw (own, wrong) refl in
        fails (reds_count (drop i reds) at to) p is (counts-stop reds i a p (index_in at p) (index_in to p) lt here none)

    -- one past the end of its creator's
    pub reds-past : IsId a.id.creator → index_in to a.id.creator ≤ index_in at a.id.creator → list_all (reds_count (drop i reds) at to) every_replica ≡ false
    reds-past is past =
        let p = a.id.creator in
        let wrong : ltb (index_in at p) (index_in to p) ≡ false = grind (arith, past) in
        reds-stop is (rw wrong refl)

    -- one that isn't its creator's next
    pub reds-apart : IsId a.id.creator → a.id.index ≢ index_in at a.id.creator + 1 → list_all (reds_count (drop i reds) at to) every_replica ≡ false
    reds-apart is apart =
        let p = a.id.creator in
        let wrong : eqb a.id.index (suc (index_in at p)) ≡ false = grind (arith, apart) in
        reds-stop is (ap (λ b. ltb (index_in at p) (index_in to p) && b) wrong ∙ never (ltb (index_in at p) (index_in to p)))
      where
        never : (b : Bool) → (b && false) ≡ false
        never true = refl
        never false = refl

pub reds-end : (reds : List Action) (i : ℕ) (at to : List ActionId) → length reds ≤ i
    → list_all (reds_count (drop i reds) at to) every_replica ≡ list_all (λ p. leb (index_in to p) (index_in at p)) every_replica
reds-end reds i at to le =
    list_all_same (reds_count (drop i reds) at to) (λ p. leb (index_in to p) (index_in at p)) (λ q. counts-end reds i q (index_in at q) (index_in to q) le) every_replica
