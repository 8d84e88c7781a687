-- What is seen after an action is taken in, and of two values that are joined; and that the sums stay small.
use Rattle.std.proofs.Common.{◌≡◌, ℕ, suc, ◌+◌, ◌*◌, ◌^◌, ◌<◌, ◌≤◌, Bool, true, false, not, cond, eqb, ltb, List, [], length, inl, inr, sym, ap, subst, ◌∙◌, arith}
use Rattle.std.specs.Prelude.{All, Option, Some, None, ℤ, pos, ◌+ℤ◌}
use Rattle.std.specs.Option.{unwrap_or, option_or}
use Rattle.std.specs.Map.{lookup}
use Rattle.std.proofs.lemmas.Bool.{cases_eq, eq-eqb, ne_eqb}
use Rattle.cg_base.specs.Calls.{greatest_cut}
use Rattle.cg_base.specs.Cuts.{index_in, raise}
use Rattle.cg_base.specs.CutLimits.{IsCut}
use Rattle.cg_action.specs.declared.command.Cmd.{Cmd}
use Rattle.cg_action.specs.declared.action.Action.{Action}
use Rattle.cg_action.specs.ActionLimits.{IsCommand}
use Rattle.cg_relaxed.specs.declared.sum_key.SumKey.{SumKey}
use Rattle.cg_relaxed.specs.declared.write.Write.{Write}
use Rattle.cg_relaxed.specs.Writes.{added, counted, sum_after, written, written_from, first_stamp, later}
use Rattle.cg_relaxed.specs.Relaxed.{with_action, joined}
use Rattle.cg_relaxed.specs.RelaxedState.{RelaxedState, part, same_part, sum_at, write_at, knows_less, is_wanted, taken_over, merged, seen, IsWithin, AreSmall}
use Rattle.cg_relaxed.proofs.Cuts.{index_in-greatest}
use Rattle.cg_relaxed.proofs.Bounds.{wider, sum-after-within, sum-after-from}
use Rattle.cg_relaxed.proofs.OneMap.{raised-index}
use Rattle.cg_base.specs.OptionLaws.{option_or_none}

-- ---- an action

pub seen-added : (old new : RelaxedState) (a : Action) (cmds : List Cmd) → cmds ≡ counted a.kind → new.known ≡ raise old.known a.id →
    ((key : List ℕ) (p : ℕ) → sum_at new.sums key p ≡ cond (eqb p a.id.creator) (sum_after (sum_at old.sums key p) key cmds) (sum_at old.sums key p)) →
    ((key : List ℕ) → write_at new.writes key ≡ later (write_at old.writes key) (written_from key (first_stamp a) cmds)) →
    seen new ≡ with_action (seen old) a
seen-added old new a cmds are known sums writes =
    let all : (key : List ℕ) (p : ℕ) → sum_at new.sums key p ≡ cond (eqb p a.id.creator) (sum_at old.sums key p +ℤ added key a) (sum_at old.sums key p) =
    λ key p. sums key p ∙ ap (λ x. cond (eqb p a.id.creator) x (sum_at old.sums key p))
    (sum-after-from key cmds (sum_at old.sums key p) ∙ ap (λ cs. sum_at old.sums key p +ℤ sum_after (pos 0) key cs) are) in
    let last : (key : List ℕ) → write_at new.writes key ≡ later (write_at old.writes key) (written key a) =
    λ key. writes key ∙ ap (λ cs. later (write_at old.writes key) (written_from key (first_stamp a) cs)) are in
    λ i. record { known = known i; sums = λ key p. all key p i; registers = λ key. last key i }

pub small-added : (old new : RelaxedState) (a : Action) (cmds : List Cmd) → length cmds ≤ 16 → All IsCommand cmds → new.known ≡ raise old.known a.id →
    ((key : List ℕ) (p : ℕ) → sum_at new.sums key p ≡ cond (eqb p a.id.creator) (sum_after (sum_at old.sums key p) key cmds) (sum_at old.sums key p)) →
    IsCut old.known → a.id.index ≡ suc (index_in old.known a.id.creator) → a.id.index < 2 ^ 40 → AreSmall old.known old.sums →
    AreSmall new.known new.sums
small-added old new a cmds short each known sums is_cut next small before = record {
  few = λ p. subst (λ (k : ℕ). k < 2 ^ 40) (sym (index p)) (few p);
  sums = λ key p. subst (λ (k : ℕ). IsWithin (k * 2 ^ 67) (sum_at new.sums key p)) (sym (index p))
      (subst (λ (x : ℤ). IsWithin (cond (eqb a.id.creator p) a.id.index (index_in old.known p) * 2 ^ 67) x) (sym (sums key p)) (within key p));
}
  where
    index : (p : ℕ) → index_in new.known p ≡ cond (eqb a.id.creator p) a.id.index (index_in old.known p)
    index p = ap (λ cut. index_in cut p) known ∙ raised-index old.known a.id p is_cut next

    few : (p : ℕ) → cond (eqb a.id.creator p) a.id.index (index_in old.known p) < 2 ^ 40
    few p = elim (cases_eq a.id.creator p) [
      | inl here ↦ rw (eq-eqb a.id.creator p here) small
      | inr apart ↦ rw (ne_eqb a.id.creator p apart) (before.few p)
    ]

    within : (key : List ℕ) (p : ℕ) → IsWithin (cond (eqb a.id.creator p) a.id.index (index_in old.known p) * 2 ^ 67)
        (cond (eqb p a.id.creator) (sum_after (sum_at old.sums key p) key cmds) (sum_at old.sums key p))
    within key p = elim (cases_eq a.id.creator p) [
      | inl here ↦
          let k = index_in old.known p in
          let is : a.id.index ≡ suc k = next ∙ ap (λ q. suc (index_in old.known q)) here in
          rw (eq-eqb a.id.creator p here, eq-eqb p a.id.creator (sym here))
          (wider (k * 2 ^ 67 + length cmds * 2 ^ 63) (a.id.index * 2 ^ 67) (sum_after (sum_at old.sums key p) key cmds) (omega arith)
          (sum-after-within key cmds (k * 2 ^ 67) (sum_at old.sums key p) each (before.sums key p)))
      | inr apart ↦ rw (ne_eqb a.id.creator p apart, ne_eqb p a.id.creator (λ e. apart (sym e))) (before.sums key p)
    ]

-- ---- a join

joined-sum : (less : Bool) (mine other first all : Option ℤ) → first ≡ cond (not less) (option_or mine None) None →
    all ≡ cond less (option_or other first) first → unwrap_or all (pos 0) ≡ cond less (unwrap_or other (pos 0)) (unwrap_or mine (pos 0))
joined-sum true mine other first all one both =
    ap (λ o. unwrap_or o (pos 0)) (both ∙ ap (λ x. option_or other x) one ∙ option_or_none other)
joined-sum false mine other first all one both = ap (λ o. unwrap_or o (pos 0)) (both ∙ one ∙ option_or_none mine)

joined-register : (mine other first all : Option Write) → first ≡ merged mine None None → all ≡ merged other mine first → all ≡ later mine other
joined-register None None first all one both = both ∙ one
joined-register (Some m) None first all one both = both ∙ one
joined-register mine (Some o) first all one both = both

-- the two loops over sums, and the two over registers, begin with nothing
module _ (mine other : RelaxedState) (none : List (SumKey × ℤ)) (first all : List (SumKey × ℤ)) (empty : none ≡ [])
    (one : (q : SumKey) → lookup (same_part q) first ≡ taken_over (is_wanted false mine.known other.known) mine.sums none q)
    (both : (q : SumKey) → lookup (same_part q) all ≡ taken_over (is_wanted true mine.known other.known) other.sums first q) where
  pub sums-joined : (key : List ℕ) (p : ℕ) → sum_at all key p
      ≡ cond (ltb (index_in mine.known p) (index_in other.known p)) (sum_at other.sums key p) (sum_at mine.sums key p)
  sums-joined key p =
      let q = part key p in
      joined-sum (knows_less mine.known other.known p) (lookup (same_part q) mine.sums) (lookup (same_part q) other.sums)
      (lookup (same_part q) first) (lookup (same_part q) all)
      (one q ∙ ap (λ base. taken_over (is_wanted false mine.known other.known) mine.sums base q) empty) (both q)

  pub small-joined : IsCut mine.known → IsCut other.known → AreSmall mine.known mine.sums → AreSmall other.known other.sums →
      AreSmall (greatest_cut mine.known other.known) all
  small-joined cut cut_too small small_too = record {
    few = λ p.
        let most = index_in-greatest mine.known other.known p cut cut_too in
        let few = small.few p in
        let few_too = small_too.few p in
        omega arith;
    sums = λ key p. subst (λ (x : ℤ). IsWithin (index_in (greatest_cut mine.known other.known) p * 2 ^ 67) x) (sym (sums-joined key p))
        (chosen key p (ltb (index_in mine.known p) (index_in other.known p)));
  }
    where
      chosen : (key : List ℕ) (p : ℕ) (b : Bool) → IsWithin (index_in (greatest_cut mine.known other.known) p * 2 ^ 67) (cond b (sum_at other.sums key p) (sum_at mine.sums key p))
      chosen key p true =
          let most = index_in-greatest mine.known other.known p cut cut_too in
          wider (index_in other.known p * 2 ^ 67) (index_in (greatest_cut mine.known other.known) p * 2 ^ 67) (sum_at other.sums key p) (omega arith) (small_too.sums key p)
      chosen key p false =
          let most = index_in-greatest mine.known other.known p cut cut_too in
          wider (index_in mine.known p * 2 ^ 67) (index_in (greatest_cut mine.known other.known) p * 2 ^ 67) (sum_at mine.sums key p) (omega arith) (small.sums key p)

pub registers-joined : (mine other : List (List ℕ × Write)) (none base first all : List (List ℕ × Write)) → none ≡ [] → base ≡ [] →
    ((q : List ℕ) → write_at first q ≡ merged (write_at mine q) (write_at none q) (write_at base q)) →
    ((q : List ℕ) → write_at all q ≡ merged (write_at other q) (write_at mine q) (write_at first q)) →
    (key : List ℕ) → write_at all key ≡ later (write_at mine key) (write_at other key)
registers-joined mine other none base first all empty nothing one both key =
    joined-register (write_at mine key) (write_at other key) (write_at first key) (write_at all key)
    (one key ∙ ap (λ es. merged (write_at mine key) (write_at es key) (write_at base key)) empty
    ∙ ap (λ es. merged (write_at mine key) None (write_at es key)) nothing)
    (both key)

pub seen-joined : (mine other new : RelaxedState) → new.known ≡ greatest_cut mine.known other.known →
    ((key : List ℕ) (p : ℕ) → sum_at new.sums key p
    ≡ cond (ltb (index_in mine.known p) (index_in other.known p)) (sum_at other.sums key p) (sum_at mine.sums key p)) →
    ((key : List ℕ) → write_at new.writes key ≡ later (write_at mine.writes key) (write_at other.writes key)) →
    seen new ≡ joined (seen mine) (seen other)
seen-joined mine other new known sums writes =
    λ i. record { known = known i; sums = λ key p. sums key p i; registers = λ key. writes key i }
