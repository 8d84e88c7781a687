-- The names of logs, ascending by place: where the logs agree, they make the list of the names at the places.
use Rattle.std.specs.Prelude.{◌≡◌, ◌<◌, ◌≤◌, ◌+◌, ◌-◌, nat_le, ℕ, zero, suc, false, List, [], ◌∷◌, ◌++◌, Option, Some, None, map, replicate, length}
use Rattle.std.specs.Option.{option_map_or}
use Rattle.std.proofs.Common.{refl, sym, ap, ap₂, ◌∙◌, arith, ⊎_elim}
use Rattle.std.proofs.lemmas.Bool.{cases_lt, cond-true, cond-false, le-leb, lt-leb}
use Rattle.cg_base.specs.declared.action_id.ActionId.{ActionId}
use Rattle.cg_base.specs.Lists.{count_up, first_some}
use Rattle.cg_compare.specs.declared.log.Log.{Log}
use Rattle.cg_compare.specs.declared.log.Joined.{Joined}
use Rattle.cg_compare.specs.declared.log.Joined.TheVariants.{Agree}
use Rattle.cg_compare.specs.declared.seen.Seen.{Seen}
use Rattle.cg_compare.specs.Places.{seen_at, last_place}
use Rattle.cg_compare.specs.Join.{first_difference, first_name, covered, first_repeat, join_logs}
use Rattle.cg_compare.specs.Orders.{IsCovered}
use Rattle.cg_compare.specs.Seen.{seen_among, AreFrom, Ascend, ArePlaced, difference_among, repeat_after, covered_above}
use Rattle.cg_compare.proofs.First.{some_is_none}
use Rattle.cg_compare.proofs.Seeing.{last_is_last}
use Rattle.cg_compare.proofs.Agreed.{no_difference_at, seen_is_told}
use Rattle.cg_compare.proofs.Repeating.{length-covered}
use Rattle.cg_compare.proofs.PlacedDifference.{hit, miss, none_below, Within, names_within, difference_found}
use Rattle.cg_compare.proofs.PlacedRepeat.{repeat_found}

-- the places of a gap have no name
gap : {X : Type 0} (f : ℕ → Option X) (from d m : ℕ) → ((q : ℕ) → from ≤ q → q < from + d → f q ≡ None) →
    map f (count_up from (d + m)) ≡ replicate d None ++ map f (count_up (from + d) m)
gap f from zero m none = ap₂ (λ a b. map f (count_up a b)) (omega arith) (omega arith)
gap f from (suc d) m none =
    let more : suc d + m ≡ suc (d + m) = omega arith in
    let next : suc from + d ≡ from + suc d = omega arith in
    ap (λ k. map f (count_up from k)) more
    ∙ ap₂ (λ a b. a ∷ b) (none from (omega arith) (omega arith))
    (gap f (suc from) d m (λ q low high. none q (omega (arith, low)) (omega (arith, high))))
    ∙ ap (λ k. replicate (suc d) None ++ map f (count_up k m)) next

-- g is what is told of the places, n the last one
module _ (g : ℕ → Option ActionId) (n : ℕ) (ends : 0 < n → g n ≡ None → ⊥) where
  to_name : (place : ℕ) (s : Seen) → place < s.place → s.place ≤ n → g s.place ≡ Some s.id →
      ((q : ℕ) → place < q → q < s.place → g q ≡ None) →
      map g (count_up (suc place) (n - place))
      ≡ replicate (s.place - (place + 1)) None ++ Some s.id ∷ map g (count_up (suc s.place) (n - s.place))
  to_name place s below high here none =
      let parts : n - place ≡ (s.place - (place + 1)) + suc (n - s.place) = omega (arith, below, high) in
      let at : suc place + (s.place - (place + 1)) ≡ s.place = omega (arith, below) in
      ap (λ k. map g (count_up (suc place) k)) parts
      ∙ gap g (suc place) (s.place - (place + 1)) (suc (n - s.place)) (λ q low up. none q (omega (arith, low)) (omega (arith, up, at)))
      ∙ ap (λ k. replicate (s.place - (place + 1)) None ++ map g (count_up k (suc (n - s.place)))) at
      ∙ ap (λ o. replicate (s.place - (place + 1)) None ++ o ∷ map g (count_up (suc s.place) (n - s.place))) here

  list_above : (place : ℕ) (rest : List Seen) → ((q : ℕ) → place < q → g q ≡ first_name (seen_among rest q)) →
      AreFrom place rest → Ascend rest → Within n rest → covered_above place rest ≡ map g (count_up (suc place) (n - place))
  list_above place [] h from up inside = ⊎_elim
      (λ (below : place < n). absurd (ends (omega (arith, below)) (h n below)))
      (λ (le : n ≤ place).
      let nothing : 0 ≡ n - place = omega (arith, le) in
      ap (λ k. map g (count_up (suc place) k)) nothing)
      (cases_lt place n)
  list_above place (s ∷ more) h from up inside = ⊎_elim
      (λ (below : place < s.place).
      let not_le : nat_le s.place place ≡ false = lt-leb s.place place below in
      cond-false (nat_le s.place place) (covered_above place more)
      (replicate (s.place - (place + 1)) None ++ Some s.id ∷ covered_above s.place more) not_le
      ∙ ap (λ rest. replicate (s.place - (place + 1)) None ++ Some s.id ∷ rest)
      (list_above s.place more
      (λ q above. h q (omega (arith, below, above)) ∙ ap first_name (miss q s more (λ e. omega (arith, e, above))))
      up.0 up.1 inside.2)
      ∙ sym (to_name place s below inside.1 (h s.place below ∙ ap first_name (hit s.place s more refl))
      (λ q low high. h q low ∙ ap first_name (none_below (s ∷ more) s.place q (omega arith, up.0) high))))
      (λ (le : s.place ≤ place).
      cond-true (nat_le s.place place) (covered_above place more)
      (replicate (s.place - (place + 1)) None ++ Some s.id ∷ covered_above s.place more) (le-leb s.place place le)
      ∙ list_above place more
      (λ q above. h q above ∙ ap first_name (miss q s more (λ e. omega (arith, e, le, above))))
      from.1 up.1 inside.2)
      (cases_lt place s.place)

any_from : (names : List Seen) → AreFrom 0 names
any_from [] = tt
any_from (s ∷ more) = (omega arith, any_from more)

list_found : (logs : List Log) (names : List Seen) → ArePlaced logs names → first_difference logs ≡ None →
    covered_above 0 names ≡ covered logs
list_found logs names p none =
    let all : last_place logs - 0 ≡ last_place logs = omega arith in
    list_above (λ q. first_name (seen_at logs q)) (last_place logs) last_told 0 names
    (λ q above. ap first_name (sym (p.seen q))) (any_from names) p.ascend (names_within logs names p)
    ∙ ap (λ n. map (λ q. first_name (seen_at logs q)) (count_up 1 n)) all where
      last_told : 0 < last_place logs → first_name (seen_at logs (last_place logs)) ≡ None → ⊥
      last_told some nothing = ⊎_elim
          (λ (is : last_place logs ≡ 0). omega (arith, is, some))
          (λ (c : IsCovered logs (last_place logs)).
          some_is_none (sym (seen_is_told logs (last_place logs) c.0 (no_difference_at logs none (last_place logs) c.0 c.1) c.1)
          ∙ nothing))
          (last_is_last logs).covered

-- ---- the three answers

abbrev answer : List Log → Option Joined → Option Joined → Joined
answer logs a b = option_map_or (λ found. found) (first_some (a ∷ b ∷ [])) (Agree (last_place logs) (covered logs))

pub when_differ : (logs : List Log) (names : List Seen) (j : Joined) → ArePlaced logs names → difference_among names ≡ Some j →
    j ≡ join_logs logs
when_differ logs names j p e =
    ap (λ a. answer logs a (first_repeat (covered logs))) (sym e ∙ difference_found logs names p)

pub when_twice : (logs : List Log) (names : List Seen) (j : Joined) → ArePlaced logs names → difference_among names ≡ None →
    repeat_after [] names ≡ Some j → j ≡ join_logs logs
when_twice logs names j p none e =
    let same : None ≡ first_difference logs = sym none ∙ difference_found logs names p in
    ap₂ (answer logs) same (sym e ∙ repeat_found logs names p (sym same))

pub when_agree : (logs : List Log) (names : List Seen) (list : List (Option ActionId)) → ArePlaced logs names →
    difference_among names ≡ None → repeat_after [] names ≡ None → list ≡ covered_above 0 names →
    Agree (length list) list ≡ join_logs logs
when_agree logs names list p none once e =
    let same : None ≡ first_difference logs = sym none ∙ difference_found logs names p in
    let also : None ≡ first_repeat (covered logs) = sym once ∙ repeat_found logs names p (sym same) in
    let whole : list ≡ covered logs = e ∙ list_found logs names p (sym same) in
    ap (λ l. Agree (length l) l) whole
    ∙ ap (λ n. Agree n (covered logs)) (length-covered logs)
    ∙ ap₂ (answer logs) same also
