-- The cell of what the rows name up to a cut is that of what lines tell to be known: of one replica, and of two together.
use Rattle.std.proofs.Common.{◌≡◌, ℕ, zero, suc, ◌+◌, ◌≤◌, ◌<◌, max, Bool, true, false, not, ◌&&◌, List, [], ◌∷◌, filter, Some, refl, sym, ap, ◌∙◌, inl, inr, arith}
use Rattle.std.specs.Prelude.{◌==◌, nat_lt, nat_le}
use Rattle.std.proofs.lemmas.Bool.{cases_Bool, cases_eq, cases_lt, and_parts, and_from, cond-true, cond-false, eq-eqb, ne_eqb, leb-true, le-leb, lt-leb}
use Rattle.cg_base.specs.EachLaws.{Each-append, Each-filter}
use Rattle.cg_base.specs.declared.action_id.ActionId.{ActionId}
use Rattle.cg_base.specs.Calls.{greatest_cut}
use Rattle.cg_base.specs.Cuts.{index_in, raise}
use Rattle.cg_base.specs.Ids.{has_name}
use Rattle.cg_base.specs.Sets.{IsId}
use Rattle.cg_action.specs.declared.action.Action.{Action}
use Rattle.cg_queue.specs.Queue.{names_of}
use Rattle.cg_disk_records.specs.Holds.{Rising, cut_behind}
use Rattle.cg_disk_records.specs.CutRaiseLaws.{index-same, index-other, rising-raise, index-before}
use Rattle.cg_model.specs.World.{no_world}
use Rattle.cg_model.specs.Run.{Step, world_after}
use Rattle.cg_model.specs.Shown.{made_action, made_from}
use Rattle.cg_agree_lemmas.specs.NamesTimes.{times-failing, times-passing, named-times}
use Rattle.cg_agree_lemmas.specs.RepliesPlaced.{times}
use Rattle.cg_relaxed.specs.Cells.{cell_of}
use Rattle.cg_relaxed.specs.Laws.{OrderDoesNotMatter}
use Rattle.cg_made_rows.specs.Rows.{cell_at, named_in}
use Rattle.cg_items.specs.RelaxedAgree.{known_by, together}
use Rattle.cg_items_agree.proofs.SameCells.{AreOf, same-cells, times-appended}
use Rattle.cg_items_agree.proofs.KnownNames.{is_up_to, AreUpTo, as-often, not-named}
use Rattle.cg_items_agree.proofs.KnownActions.{Knows}
use Rattle.cg_items_agree.proofs.MadeRows.{rows_of}
use Rattle.cg_items_agree.proofs.NumberedRows.{counts, rows-known, rows-own}
use Rattle.cg_items_agree.proofs.RelaxedRun.{IsBeside}
use Rattle.cg_queue.specs.NameLaws.{names-filter}

-- ---- what two know together

greatest-from : (c d : List ActionId) (low p : ℕ) → Rising 0 c → Rising low d →
    index_in (cut_behind c d) p ≡ max (index_in c p) (index_in d p)
greatest-from c [] low p one other = (let same : index_in c p ≡ max (index_in c p) 0 = omega arith in same)
greatest-from c (t ∷ d) low p one other =
    let rest = greatest-from (raise c t) d (suc t.creator) p (rising-raise c t one) other.1 in
    elim (cases_eq t.creator p) [
      | inl here ↦
          let none : index_in d p ≡ 0 = index-before d (suc t.creator) p other.1 (omega arith) in
          let raised : index_in (raise c t) p ≡ max (index_in c p) t.index = index-same c t one p here in
          let first : index_in (t ∷ d) p ≡ t.index = cond-true (t.creator == p) t.index (index_in d p) (eq-eqb t.creator p here) in
          omega arith
      | inr apart ↦
          let raised : index_in (raise c t) p ≡ index_in c p = index-other c t one p apart in
          let first : index_in (t ∷ d) p ≡ index_in d p = cond-false (t.creator == p) t.index (index_in d p) (ne_eqb t.creator p apart) in
          omega arith
    ]

greatest-at : (c d : List ActionId) (p : ℕ) → Rising 0 c → Rising 0 d →
    index_in (greatest_cut c d) p ≡ max (index_in c p) (index_in d p)
greatest-at c d p one other = greatest-from c d 0 p one other

-- numbers from 1 up to the greater of two
in-either : (i a b : ℕ) → (nat_lt 0 i && nat_le i a) ≡ true → (nat_lt 0 i && nat_le i (max a b)) ≡ true
in-either i a b is =
    let parts = and_parts (nat_lt 0 i) (nat_le i a) is in
    let le = leb-true i a parts.1 in
    and_from (nat_lt 0 i) (nat_le i (max a b)) parts.0 (le-leb i (max a b) (omega arith))

in-other : (i a b : ℕ) → (nat_lt 0 i && nat_le i a) ≡ false →
    (nat_lt 0 i && nat_le i (max a b)) ≡ (nat_lt 0 i && nat_le i b)
in-other i a b not = at (nat_lt 0 i) not where
  at : (some : Bool) → (some && nat_le i a) ≡ false → (some && nat_le i (max a b)) ≡ (some && nat_le i b)
  at false e = refl
  at true e = elim (cases_lt a i) [
    | inr le ↦ absurd (let clash : true ≡ false = sym (le-leb i a le) ∙ e in cc)
    | inl less ↦ elim (cases_lt b i) [
      | inl lower ↦ lt-leb i (max a b) (omega arith) ∙ sym (lt-leb i b lower)
      | inr reaches ↦ le-leb i (max a b) (omega arith) ∙ sym (le-leb i b reaches)
    ]
  ]

module _ (c d : List ActionId) (rising : Rising 0 c) (also : Rising 0 d) (xs ys : List Action) (one : AreUpTo c (names_of xs)) (other : AreUpTo d (names_of ys)) where
  in-greatest : (id : ActionId) → is_up_to (greatest_cut c d) id ≡ (nat_lt 0 id.index && nat_le id.index (max (index_in c id.creator) (index_in d id.creator)))
  in-greatest id = ap (λ n. nat_lt 0 id.index && nat_le id.index n) (greatest-at c d id.creator rising also)

  together-times : (id : ActionId) → times id (names_of (together xs ys)) ≡ times id (names_of xs) + times id (filter (λ id. not (has_name (names_of xs) id)) (names_of ys))
  together-times id =
      times-appended id xs (filter (λ a. not (has_name (names_of xs) a.id)) ys)
      ∙ ap (λ ids. times id (names_of xs) + times id ids) (names-filter (λ id. not (has_name (names_of xs) id)) ys)

  of-first : (id : ActionId) → has_name (names_of xs) id ≡ true → times id (names_of (together xs ys)) ≡ 1
  of-first id there =
      let all = together-times id in
      let none = times-failing (λ id. not (has_name (names_of xs) id)) id (names_of ys) (ap not there) in
      let some = named-times id (names_of xs) there in
      let most = one.once id in
      omega arith

  of-second : (id : ActionId) → has_name (names_of xs) id ≡ false →
      times id (names_of (together xs ys)) ≡ times id (names_of ys)
  of-second id missing =
      let all = together-times id in
      let passing = times-passing (λ id. not (has_name (names_of xs) id)) id (names_of ys) (ap not missing) in
      let none = not-named id (names_of xs) missing in
      omega arith

  pub together-up-to : AreUpTo (greatest_cut c d) (names_of (together xs ys))
  together-up-to = counts (greatest_cut c d) (names_of (together xs ys))
      (λ id is. elim (cases_Bool (has_name (names_of xs) id)) [
        | inl there ↦ of-first id there
        | inr missing ↦
            let up : is_up_to d id ≡ true = sym (in-other id.index (index_in c id.creator) (index_in d id.creator) (sym (one.known id) ∙ missing)) ∙ sym (in-greatest id) ∙ is in
            let some = named-times id (names_of ys) (other.known id ∙ up) in
            let most = other.once id in
            let same = of-second id missing in
            omega arith
      ])
      (λ id isnt. elim (cases_Bool (has_name (names_of xs) id)) [
        | inl there ↦ absurd (
            let up = in-either id.index (index_in c id.creator) (index_in d id.creator) (sym (one.known id) ∙ there) in
            let clash : true ≡ false = sym up ∙ sym (in-greatest id) ∙ isnt in cc)
        | inr missing ↦
            let out : is_up_to d id ≡ false = sym (in-other id.index (index_in c id.creator) (index_in d id.creator) (sym (one.known id) ∙ missing)) ∙ sym (in-greatest id) ∙ isnt in
            of-second id missing ∙ not-named id (names_of ys) (other.known id ∙ out)
      ])

-- ---- cells

module _ (order : OrderDoesNotMatter) (steps : List Step) (beside : IsBeside steps) (key : List ℕ) where
  module _ (cut : List ActionId) (low : (q : ℕ) → index_in cut q ≤ index_in (world_after no_world steps).made q) (ids : (q : ℕ) → 0 < index_in cut q → IsId q) where
    cell-of-rows : (list : List Action) → AreUpTo cut (names_of list) → AreOf (made_action steps) list →
        cell_at (rows_of [] steps) cut key ≡ cell_of list key
    cell-of-rows list names own =
        let rows = rows_of [] steps in
        let made = made_from [] steps in
        let w = world_after no_world steps in
        same-cells (made_action steps) order key [] (named_in rows cut) list (rows-own rows made w beside.rows beside.numbered cut) own
        (as-often cut (names_of (named_in rows cut)) (names_of list) (rows-known rows made w beside.rows beside.numbered cut low ids) names)

  pub one-cell : (p : ℕ) (cut : List ActionId) → Knows steps p cut →
      cell_at (rows_of [] steps) cut key ≡ cell_of (known_by steps p) key
  one-cell p cut knows = cell-of-rows cut knows.low knows.ids (known_by steps p) knows.names knows.own

  pub both-cell : (p q : ℕ) (c d : List ActionId) → Knows steps p c → Knows steps q d →
      cell_at (rows_of [] steps) (greatest_cut c d) key ≡ cell_of (together (known_by steps p) (known_by steps q)) key
  both-cell p q c d one other =
      let xs = known_by steps p in
      let ys = known_by steps q in
      let at : (n : ℕ) → index_in (greatest_cut c d) n ≡ max (index_in c n) (index_in d n) = λ n. greatest-at c d n one.rising other.rising in
      cell-of-rows (greatest_cut c d)
      (λ n. (let is = at n in let first = one.low n in let second = other.low n in omega arith))
      (λ n some. either n (index_in c n) refl some)
      (together xs ys)
      (together-up-to c d one.rising other.rising xs ys one.names other.names)
      (Each-append (λ a. made_action steps a.id ≡ Some a) xs (filter (λ a. not (has_name (names_of xs) a.id)) ys) one.own
      (Each-filter (λ a. made_action steps a.id ≡ Some a) (λ a. not (has_name (names_of xs) a.id)) ys other.own))
    where
      either : (n k : ℕ) → index_in c n ≡ k → 0 < index_in (greatest_cut c d) n → IsId n
      either n zero is some = other.ids n (let both = greatest-at c d n one.rising other.rising in omega arith)
      either n (suc k) is some = one.ids n (omega arith)
