-- One replica's facts: a yellow mark, an installation with all that it makes green, and the white count at a commit.
use Rattle.std.proofs.Common.{◌≡◌, suc, ◌<◌, ◌≤◌, List, [], ◌∷◌, ◌++◌, cond, true, false, not, max, filter, fold, refl, sym, ap, ◌∙◌, subst, arith, inl, inr, nat_lt, nat_le, leb-true, append-nil}
use Rattle.std.specs.Prelude.{◌==◌}
use Rattle.std.proofs.lemmas.Bool.{cases_eq, cases_order, cases_Bool, eq-eqb, ne_eqb, lt-ltb, le-ltb, lt-leb, le-leb, and_parts, and_from}
use Rattle.std.proofs.lemmas.List.{append_assoc}
use Rattle.cg_base.specs.declared.action_id.ActionId.{ActionId}
use Rattle.cg_base.specs.declared.weighted.Weighted.{Weighted}
use Rattle.cg_base.specs.Ids.{has_name, same_id}
use Rattle.cg_base.specs.Cuts.{index_in, raise}
use Rattle.cg_action.specs.declared.action.Action.{Action}
use Rattle.cg_queue.specs.Queue.{Marks, Gaps, names_of, and_yellow, with_yellow, marked_yellow, placed_red, without_action}
use Rattle.cg_queue.specs.declared.mark.Mark.TheVariants.{Placed, Known}
use Rattle.cg_queue.specs.MarkLaws.{red-known, red-placed, yellow-added, yellow-kept}
use Rattle.cg_client.specs.Replica.{Held, created}
use Rattle.cg_client.specs.Turn.{Turn}
use Rattle.cg_client.specs.Marks.{is_unmade, marked, mark_yellow, can_be_green, place_green, mark_green, after_first}
use Rattle.cg_disk_records.specs.Holds.{run_on, cut_behind, Rising}
use Rattle.cg_disk_records.specs.RunLaws.{run_on-next, cut_behind-append}
use Rattle.cg_disk_records.specs.CutRaiseLaws.{index-same, index-rises, behind-rises, raise-below}
use Rattle.cg_disk_records.specs.RunMarkLaws.{run-head, run-rest, run-names, names-new}
use Rattle.cg_agree_lemmas.specs.HeldMarks.{IsOneself, are_within, within-rises, rising-green, rising-red, red-oneself, green-oneself}
use Rattle.cg_agree_lemmas.specs.HeldTurns.{Grows, grows-none, oneself-with}

-- ---- a yellow mark

-- all names that are known and not green are yellow
abbrev pub IsAllYellow : Held → Type 0
IsAllYellow h = cut_behind h.queue.green_cut h.queue.yellow ≡ h.queue.red_cut

pub record GrowsYellow (start : List Weighted) (old new : Held) (all : List Action) : Type 0 where
  pub grows : Grows start old new all
  pub all_yellow : IsAllYellow new

within-behind : (red ids : List ActionId) (id : ActionId) → are_within red ids ≡ true → id.index ≤ index_in red id.creator → are_within red (ids ++ id ∷ []) ≡ true
within-behind red [] id known le = and_from (nat_le id.index (index_in red id.creator)) true (le-leb id.index (index_in red id.creator) le) refl
within-behind red (x ∷ ids) id known le =
    let parts = and_parts (nat_le x.index (index_in red x.creator)) (are_within red ids) known in
    and_from (nat_le x.index (index_in red x.creator)) (are_within red (ids ++ id ∷ [])) parts.0 (within-behind red ids id parts.1 le)

module _ (start : List Weighted) (h : Held) (all : List Action) (is : IsOneself start h all) (yellow : IsAllYellow h) (a : Action) where
  abbrev pub with_yellow_mark : Held
  with_yellow_mark =
      let q = placed_red h.queue a in
      record h { queue = record q { yellow = h.queue.yellow ++ a.id ∷ [] }; own = after_first h.own a.id }

  -- the next action of its creator becomes red and yellow
  pub yellow-oneself : a.id.index ≡ suc (index_in h.queue.red_cut a.id.creator) → IsOneself start with_yellow_mark all
  yellow-oneself next =
      let red = red-oneself start h all is a next in
      let marked_red_held : Held = record h { queue = placed_red h.queue a; own = after_first h.own a.id } in
      let reached : index_in (raise h.queue.red_cut a.id) a.id.creator ≡ max (index_in h.queue.red_cut a.id.creator) a.id.index =
      index-same h.queue.red_cut a.id (rising-red start h all is) a.id.creator refl in
      oneself-with start marked_red_held all red (h.queue.yellow ++ a.id ∷ []) (after_first h.own a.id) h.yellow_valid h.prim h.attempt_index h.vulnerable h.buffered h.owed
      (run_on-next h.queue.green_cut h.queue.yellow a.id is.yellow_closed.next (next ∙ ap (λ c. suc (index_in c a.id.creator)) (sym yellow)))
      (within-behind (raise h.queue.red_cut a.id) h.queue.yellow a.id red.yellow_closed.known (omega arith))
      red.contiguous.own red.contiguous.mine

  pub yellow-placed : a.id.index ≡ suc (index_in h.queue.red_cut a.id.creator) →
      marked_yellow h.queue a ≡ Marks Placed (let q = placed_red h.queue a in record q { yellow = h.queue.yellow ++ a.id ∷ [] })
  yellow-placed next =
      let last : a.id.index ≡ suc (index_in (cut_behind h.queue.green_cut h.queue.yellow) a.id.creator) = next ∙ ap (λ c. suc (index_in c a.id.creator)) (sym yellow) in
      let up : index_in h.queue.green_cut a.id.creator ≤ index_in (cut_behind h.queue.green_cut h.queue.yellow) a.id.creator =
      behind-rises h.queue.green_cut h.queue.yellow a.id.creator (rising-green start h all is) in
      ap (and_yellow a.id) (red-placed h.queue a next)
      ∙ ap (λ q. Marks Placed q) (yellow-added (placed_red h.queue a) a.id (omega arith)
      (names-new h.queue.green_cut h.queue.yellow a.id (rising-green start h all is) is.yellow_closed.next last))

  yellow-same : a.id.index ≤ index_in h.queue.red_cut a.id.creator → marked_yellow h.queue a ≡ Marks Known h.queue
  yellow-same le =
      ap (and_yellow a.id) (red-known h.queue a le) ∙ ap (λ q. Marks Known q) (elim (cases_order a.id.index (index_in h.queue.green_cut a.id.creator)) [
        | inl same ↦ green (omega arith)
        | inr apart ↦ elim apart [
          | inl lt ↦ green (omega arith)
          | inr gt ↦ yellow-kept h.queue a.id
              (run-names h.queue.green_cut h.queue.yellow a.id (rising-green start h all is) is.yellow_closed.next
              ∙ and_from (nat_lt (index_in h.queue.green_cut a.id.creator) a.id.index) (nat_le a.id.index (index_in (cut_behind h.queue.green_cut h.queue.yellow) a.id.creator))
              (lt-ltb (index_in h.queue.green_cut a.id.creator) a.id.index gt)
              (ap (λ c. nat_le a.id.index (index_in c a.id.creator)) yellow ∙ le-leb a.id.index (index_in h.queue.red_cut a.id.creator) le))
        ]
      ]) where
        green : a.id.index ≤ index_in h.queue.green_cut a.id.creator → with_yellow h.queue a.id ≡ h.queue
        green below = rw (le-ltb (index_in h.queue.green_cut a.id.creator) a.id.index below) refl

  yellow-gap : suc (index_in h.queue.red_cut a.id.creator) < a.id.index → marked_yellow h.queue a ≡ Gaps (index_in h.queue.red_cut a.id.creator)
  yellow-gap gt =
      let cut = index_in h.queue.red_cut a.id.creator in
      rw (lt-leb a.id.index cut (omega arith), ne_eqb a.id.index (suc cut) (λ e. omega arith)) refl

-- an action is marked yellow where all that is known and not green is yellow
pub yellow-kept-so : (start : List Weighted) (all : List Action) (t : Turn) (a : Action) → IsOneself start t.replica.held all → IsAllYellow t.replica.held →
    GrowsYellow start t.replica.held (mark_yellow t a).replica.held all
unfolding mark_yellow
yellow-kept-so start all t a is yellow =
    let h = t.replica.held in
    let cut = index_in h.queue.red_cut a.id.creator in
    let as_it_is : GrowsYellow start h h all = record { grows = grows-none start h h all refl is; all_yellow = yellow } in
    elim (cases_Bool (is_unmade h a)) [
      | inl unmade ↦ subst (λ b. GrowsYellow start h (cond b t (marked t a (marked_yellow h.queue a))).replica.held all) (sym unmade) as_it_is
      | inr made ↦ subst (λ b. GrowsYellow start h (cond b t (marked t a (marked_yellow h.queue a))).replica.held all) (sym made)
          (elim (cases_order a.id.index (suc cut)) [
            | inl next ↦ subst (λ m. GrowsYellow start h (marked t a m).replica.held all) (sym (yellow-placed start h all is yellow a next))
                (record {
                  grows = grows-none start h (with_yellow_mark start h all is yellow a) all refl (yellow-oneself start h all is yellow a next);
                  all_yellow = cut_behind-append h.queue.green_cut h.queue.yellow (a.id ∷ []) ∙ ap (λ c. raise c a.id) yellow;
                })
            | inr apart ↦ elim apart [
              | inl lt ↦ subst (λ m. GrowsYellow start h (marked t a m).replica.held all) (sym (yellow-same start h all is yellow a (omega arith))) as_it_is
              | inr gt ↦ subst (λ m. GrowsYellow start h (marked t a m).replica.held all) (sym (yellow-gap start h all is yellow a gt)) as_it_is
            ]
          ])
    ]

-- ---- a run of known actions becomes green

-- the reds without those of these names
abbrev pub reds_but : List ActionId → List Action → List Action
reds_but ids reds = filter (λ a. not (has_name ids a.id)) reds

pub record GreenRun (start : List Weighted) (old new : Held) (all list : List Action) : Type 0 where
  pub kept : new.queue.greens ≡ old.queue.greens ++ list
  pub is : IsOneself start new (all ++ list)
  pub green_cut : new.queue.green_cut ≡ cut_behind old.queue.green_cut (names_of list)
  pub red_cut : new.queue.red_cut ≡ old.queue.red_cut
  pub reds : new.queue.reds ≡ reds_but (names_of list) old.queue.reds

reds-all : (reds : List Action) → reds ≡ reds_but [] reds
reds-all [] = refl
reds-all (a ∷ reds) = ap (λ xs. a ∷ xs) (reds-all reds)

reds-step : (id : ActionId) (ids : List ActionId) (reds : List Action) → reds_but ids (without_action reds id) ≡ reds_but (id ∷ ids) reds
reds-step id ids [] = refl
reds-step id ids (a ∷ reds) = elim (cases_Bool (same_id a.id id)) [
  | inl same ↦ rw same (reds-step id ids reds)
  | inr other ↦ rw other (elim (cases_Bool (has_name ids a.id)) [
    | inl named ↦ rw named (reds-step id ids reds)
    | inr unnamed ↦ rw unnamed (ap (λ xs. a ∷ xs) (reds-step id ids reds))
  ])
]

-- an own action that is known was created
made-known : (h : Held) (a : Action) → a.id.index ≤ index_in h.queue.red_cut a.id.creator → is_unmade h a ≡ false
unfolding is_unmade
made-known h a le = elim (cases_eq a.id.creator h.id) [
  | inl same ↦
      let at_red : index_in h.queue.red_cut a.id.creator ≡ index_in h.queue.red_cut h.id = ap (index_in h.queue.red_cut) same in
      rw (eq-eqb a.id.creator h.id same) (le-ltb (created h) a.id.index (omega arith))
  | inr apart ↦ rw (ne_eqb a.id.creator h.id apart) refl
]

placed-green : (t : Turn) (a : Action) → a.id.index ≡ suc (index_in t.replica.held.queue.green_cut a.id.creator) → is_unmade t.replica.held a ≡ false →
    mark_green t a ≡ place_green t a
unfolding mark_green can_be_green
placed-green t a next made =
    ap (λ b. cond b (place_green t a) t)
    (and_from (a.id.index == suc (index_in t.replica.held.queue.green_cut a.id.creator)) (not (is_unmade t.replica.held a))
    (eq-eqb a.id.index (suc (index_in t.replica.held.queue.green_cut a.id.creator)) next) (ap not made))

one : (start : List Weighted) (all : List Action) (t : Turn) (a : Action) → a.id.index ≡ suc (index_in t.replica.held.queue.green_cut a.id.creator) → IsOneself start t.replica.held all →
    IsOneself start (place_green t a).replica.held (all ++ a ∷ [])
unfolding place_green
one start all t a next is = green-oneself start t.replica.held all is a next

first-run : (t : Turn) (a : Action) (list : List Action) → run_on t.replica.held.queue.green_cut (names_of (a ∷ list)) ≡ true →
    run_on (place_green t a).replica.held.queue.green_cut (names_of list) ≡ true
unfolding place_green
first-run t a list run = run-rest t.replica.held.queue.green_cut a.id (names_of list) run

first-known : (t : Turn) (a : Action) (list : List Action) → are_within (raise t.replica.held.queue.red_cut a.id) (names_of list) ≡ true →
    are_within (place_green t a).replica.held.queue.red_cut (names_of list) ≡ true
unfolding place_green
first-known t a list known = known

whole : (start : List Weighted) (all : List Action) (t : Turn) (a : Action) (list : List Action) → Rising 0 t.replica.held.queue.red_cut → a.id.index ≤ index_in t.replica.held.queue.red_cut a.id.creator →
    GreenRun start (place_green t a).replica.held (fold mark_green (place_green t a) list).replica.held (all ++ a ∷ []) list →
    GreenRun start t.replica.held (fold mark_green (place_green t a) list).replica.held all (a ∷ list)
unfolding place_green
whole start all t a list rising le rest = record {
  kept = rest.kept ∙ append_assoc t.replica.held.queue.greens (a ∷ []) list;
  is = subst (IsOneself start (fold mark_green (place_green t a) list).replica.held) (append_assoc all (a ∷ []) list) rest.is;
  green_cut = rest.green_cut;
  red_cut = rest.red_cut ∙ raise-below t.replica.held.queue.red_cut a.id rising le;
  reds = rest.reds ∙ reds-step a.id (names_of list) t.replica.held.queue.reds;
}

pub green-run : (start : List Weighted) (all : List Action) (t : Turn) (list : List Action) → IsOneself start t.replica.held all →
    run_on t.replica.held.queue.green_cut (names_of list) ≡ true → are_within t.replica.held.queue.red_cut (names_of list) ≡ true →
    GreenRun start t.replica.held (fold mark_green t list).replica.held all list
green-run start all t [] is run known = record {
  kept = sym (append-nil t.replica.held.queue.greens);
  is = subst (IsOneself start t.replica.held) (sym (append-nil all)) is;
  green_cut = refl;
  red_cut = refl;
  reds = reds-all t.replica.held.queue.reds;
}
green-run start all t (a ∷ list) is run known =
    let h = t.replica.held in
    let next = run-head h.queue.green_cut a.id (names_of list) run in
    let parts = and_parts (nat_le a.id.index (index_in h.queue.red_cut a.id.creator)) (are_within h.queue.red_cut (names_of list)) known in
    let le : a.id.index ≤ index_in h.queue.red_cut a.id.creator = leb-true a.id.index (index_in h.queue.red_cut a.id.creator) parts.0 in
    let rises = within-rises h.queue.red_cut (raise h.queue.red_cut a.id) (names_of list) (index-rises h.queue.red_cut a.id (rising-red start h all is)) parts.1 in
    let placed = placed-green t a next (made-known h a le) in
    let rest = green-run start (all ++ a ∷ []) (place_green t a) list (one start all t a next is) (first-run t a list run) (first-known t a list rises) in
    subst (λ (u : Turn). GreenRun start h (fold mark_green u list).replica.held all (a ∷ list)) (sym placed)
    (whole start all t a list (rising-red start h all is) le rest)
