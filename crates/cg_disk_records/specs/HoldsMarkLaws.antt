-- What holds of what a replica holds, behind a red mark and behind a green one.
use Rattle.std.proofs.Common.{◌≡◌, ℕ, suc, ◌+◌, ◌<◌, ◌≤◌, ◌≢◌, List, [], ◌∷◌, ◌++◌, length, Bool, true, false, not, max, fold, refl, sym, ap, ◌∙◌, subst, arith, inl, inr, length-append, sum_by}
use Rattle.std.specs.Prelude.{◌==◌}
use Rattle.std.specs.List.{list_all}
use Rattle.std.proofs.lemmas.Bool.{cases_eq, cases_order, cases_Bool, eq-eqb, ne_eqb, lt-ltb, le-ltb, and_parts, and_from, or_right}
use Rattle.cg_base.specs.declared.action_id.ActionId.{ActionId}
use Rattle.cg_base.specs.Ids.{same_id, id_before, has_name}
use Rattle.cg_base.specs.Cuts.{index_in, with_top, raise}
use Rattle.cg_action.specs.declared.action.Action.{Action}
use Rattle.cg_members.specs.Laws.{AreApart}
use Rattle.cg_members.specs.Servers.{after_green}
use Rattle.cg_queue.specs.Distinct.{is_distinct}
use Rattle.cg_queue.specs.DistinctLaws.{distinct-kept}
use Rattle.cg_queue.specs.Queue.{names_of, green_count, with_red, without_action, placed_red}
use Rattle.cg_client.specs.Replica.{Held}
use Rattle.cg_client.specs.Marks.{after_first, with_green}
use Rattle.cg_disk_records.specs.Agreeing.{indexes_of}
use Rattle.cg_disk_records.specs.Holds.{run_on, cut_behind, ascend, Rising, CountsTo, Holds}
use Rattle.cg_base.specs.IdLaws.{same_id-false, same_id-is}
use Rattle.cg_base.specs.CutLaws.{raise-some}
use Rattle.cg_disk_records.specs.CutRaiseLaws.{rising-raise, rising-behind, behind-rises, index-same, index-other}
use Rattle.cg_disk_records.specs.RunMarkLaws.{run-head, without, taken-out, inserted, run-inserted, behind-inserted, ascend-inserted, ascend-filter, names-new}
use Rattle.cg_members.specs.MemberLaws.{AreApart-after_green}
use Rattle.cg_disk_records.specs.HeldLaws.{names-with_red, names-without, are-after, after-there, own-after}

-- what is held behind an action that becomes known
abbrev pub known_by : Held → Action → Held
known_by h a = record h { queue = placed_red h.queue a; own = after_first h.own a.id }

-- ---- lists of names

-- a name that stands in the list stands there with one more among them
names-inserted : (ids : List ActionId) (id y : ActionId) → has_name ids y ≡ true → has_name (inserted ids id) y ≡ true
names-inserted [] id y there = absurd (let clash : false ≡ true = there in cc)
names-inserted (x ∷ ids) id y there = elim (cases_Bool (id_before id x)) [
  | inl before ↦ rw before (or_right (same_id y id) (has_name (x ∷ ids) y) there)
  | inr later ↦ rw later (elim (cases_Bool (same_id y x)) [
    | inl here ↦ rw here refl
    | inr apart ↦ or_right (same_id y x) (has_name (inserted ids id) y) (names-inserted ids id y (rw apart at there))
  ])
]

-- and without another one
names-left : (ids : List ActionId) (id y : ActionId) → same_id y id ≡ false → has_name ids y ≡ true →
    has_name (without id ids) y ≡ true
names-left [] id y other there = there
names-left (x ∷ ids) id y other there = elim (cases_Bool (same_id x id)) [
  | inl taken ↦
      rw taken (names-left ids id y other (rw (ap (λ z. same_id y z) (same_id-is x id taken) ∙ other) at there))
  | inr stays ↦ rw stays (elim (cases_Bool (same_id y x)) [
    | inl here ↦ rw here refl
    | inr apart ↦ or_right (same_id y x) (has_name (without id ids) y) (names-left ids id y other (rw apart at there))
  ])
]

-- ---- yellow names

abbrev pub are_red : List ActionId → List ActionId → Bool
are_red reds ids = list_all (has_name reds) ids

red-inserted : (reds : List ActionId) (id : ActionId) (ids : List ActionId) → are_red reds ids ≡ true →
    are_red (inserted reds id) ids ≡ true
red-inserted reds id [] red = refl
red-inserted reds id (y ∷ ids) red =
    let parts = and_parts (has_name reds y) (are_red reds ids) red in
    and_from (has_name (inserted reds id) y) (are_red (inserted reds id) ids) (names-inserted reds id y parts.0)
    (red-inserted reds id ids parts.1)

red-left : (reds : List ActionId) (id : ActionId) (ids : List ActionId) → are_red reds ids ≡ true →
    are_red (without id reds) (without id ids) ≡ true
red-left reds id [] red = refl
red-left reds id (y ∷ ids) red =
    let parts = and_parts (has_name reds y) (are_red reds ids) red in
    elim (cases_Bool (same_id y id)) [
      | inl taken ↦ rw taken (red-left reds id ids parts.1)
      | inr stays ↦ rw stays (and_from (has_name (without id reds) y) (are_red (without id reds) (without id ids))
          (names-left reds id y stays parts.0) (red-left reds id ids parts.1))
    ]

-- ---- own actions

-- an own action that is known already isn't the first of those that aren't
pub own-same : (red : List ActionId) (own : List Action) (id : ActionId) → run_on red (names_of own) ≡ true →
    id.index ≤ index_in red id.creator → after_first own id ≡ own
own-same red [] id run le = refl
own-same red (a ∷ own) id run le =
    let next : a.id.index ≡ suc (index_in red a.id.creator) = run-head red a.id (names_of own) run in
    after-there a own id (elim (cases_eq a.id.creator id.creator) [
      | inl same ↦ let at_red : index_in red a.id.creator ≡ index_in red id.creator = ap (index_in red) same in
          same_id-false a.id id (inr (λ e. omega arith))
      | inr apart ↦ same_id-false a.id id (inl apart)
    ])

-- ---- greens

-- the numbers with the next one behind them
counts-next : (last : ℕ) (ns : List ℕ) → CountsTo last ns → CountsTo (suc last) (ns ++ suc last ∷ [])
counts-next last [] counts = (omega arith, omega arith, tt)
counts-next last (n ∷ ns) counts =
    let one : 1 ≤ n = counts.0 in
    let whole : n + length ns ≡ last = counts.1 in
    let longer : length (ns ++ suc last ∷ []) ≡ length ns + 1 = length-append ns (suc last ∷ []) in
    (one, omega arith, counts-next last ns counts.2)

indexes-here : (xs : List Action) (a : Action) (p : ℕ) → a.id.creator ≡ p →
    indexes_of (xs ++ a ∷ []) p ≡ indexes_of xs p ++ a.id.index ∷ []
indexes-here [] a p same = rw (eq-eqb a.id.creator p same) refl
indexes-here (x ∷ xs) a p same = elim (cases_Bool (x.id.creator == p)) [
  | inl here ↦ rw here (ap (λ ns. x.id.index ∷ ns) (indexes-here xs a p same))
  | inr other ↦ rw other (indexes-here xs a p same)
]

indexes-other : (xs : List Action) (a : Action) (p : ℕ) → a.id.creator ≢ p →
    indexes_of (xs ++ a ∷ []) p ≡ indexes_of xs p
indexes-other [] a p apart = rw (ne_eqb a.id.creator p apart) refl
indexes-other (x ∷ xs) a p apart = elim (cases_Bool (x.id.creator == p)) [
  | inl here ↦ rw here (ap (λ ns. x.id.index ∷ ns) (indexes-other xs a p apart))
  | inr other ↦ rw other (indexes-other xs a p apart)
]

-- one more action counts one more
abbrev sum_of : List ActionId → ℕ
sum_of cut = sum_by (λ (top : ActionId). top.index) cut

sum-from : (n : ℕ) (cut : List ActionId) → fold (λ (m : ℕ) (top : ActionId). m + top.index) n cut ≡ n + sum_of cut
sum-from n [] = omega arith
sum-from n (t ∷ cut) =
    let here : fold (λ (m : ℕ) (top : ActionId). m + top.index) (n + t.index) cut ≡ (n + t.index) + sum_of cut =
    sum-from (n + t.index) cut in
    let whole : sum_of (t ∷ cut) ≡ (0 + t.index) + sum_of cut = sum-from (0 + t.index) cut in
    here ∙ (let e : (n + t.index) + sum_of cut ≡ n + sum_of (t ∷ cut) = omega arith in e)

pub sum-cons : (t : ActionId) (cut : List ActionId) → sum_of (t ∷ cut) ≡ t.index + sum_of cut
sum-cons t cut = sum-from (0 + t.index) cut
    ∙ (let e : (0 + t.index) + sum_of cut ≡ t.index + sum_of cut = omega arith in e)

sum-with : (cut : List ActionId) (id : ActionId) (low : ℕ) → Rising low cut → id.index ≡ suc (index_in cut id.creator) →
    sum_of (with_top cut id) ≡ suc (sum_of cut)
sum-with [] id low rising next = omega arith
sum-with (t ∷ cut) id low rising next = elim (cases_order id.creator t.creator) [
  | inl same ↦
      let here : id.index ≡ suc t.index = top_at same next in
      let longer : ActionId = record t { index = max t.index id.index } in
      rw (eq-eqb t.creator id.creator (sym same)) (let old = sum-cons t cut in
      let new : sum_of (longer ∷ cut) ≡ max t.index id.index + sum_of cut = sum-cons longer cut in
      new ∙ (let e : max t.index id.index + sum_of cut ≡ suc (sum_of (t ∷ cut)) = omega arith in e))
  | inr apart ↦ elim apart [
    | inl front ↦
        let none : index_in (t ∷ cut) id.creator ≡ 0 =
        before (t ∷ cut) (suc id.creator) (front, rising.1) (omega arith) in
        rw (ne_eqb t.creator id.creator (λ e. omega arith), lt-ltb id.creator t.creator front) (sum-cons id (t ∷ cut)
        ∙ (let e : id.index + sum_of (t ∷ cut) ≡ suc (sum_of (t ∷ cut)) = omega arith in e))
    | inr later ↦
        let rest = sum-with cut id (suc t.creator) rising.1 (behind later next) in
        rw (
          ne_eqb t.creator id.creator (λ e. omega arith),
          le-ltb id.creator t.creator (omega arith),
        ) (sum-cons t (with_top cut id)
        ∙ (let old = sum-cons t cut in
        let e : t.index + sum_of (with_top cut id) ≡ suc (sum_of (t ∷ cut)) = omega arith in e))
  ]
]
  where
    top_at : id.creator ≡ t.creator → id.index ≡ suc (index_in (t ∷ cut) id.creator) → id.index ≡ suc t.index
    top_at same n = rw (eq-eqb t.creator id.creator (sym same)) at n

    behind : t.creator < id.creator → id.index ≡ suc (index_in (t ∷ cut) id.creator) →
        id.index ≡ suc (index_in cut id.creator)
    behind later n = rw (ne_eqb t.creator id.creator (λ e. omega arith)) at n

    before : (cut : List ActionId) (low : ℕ) → Rising low cut → id.creator < low → index_in cut id.creator ≡ 0
    before [] low rising lt = refl
    before (u ∷ cut) low rising lt =
        let above : low ≤ u.creator = rising.0 in
        rw (ne_eqb u.creator id.creator (λ e. omega arith)) (before cut (suc u.creator) rising.1 (omega arith))

sum-raise : (cut : List ActionId) (id : ActionId) → Rising 0 cut → id.index ≡ suc (index_in cut id.creator) →
    sum_of (raise cut id) ≡ suc (sum_of cut)
sum-raise cut id rising next = ap sum_of (raise-some cut id (λ e. omega arith)) ∙ sum-with cut id 0 rising next

-- ---- one replica

module _ (h : Held) (is : Holds h) where
  pub rising-red : Rising 0 h.queue.red_cut
  rising-red = subst (Rising 0) (sym is.red_cut) (rising-behind h.queue.green_cut (names_of h.queue.reds) is.rising)

  pub green-below : (p : ℕ) → index_in h.queue.green_cut p ≤ index_in h.queue.red_cut p
  green-below p =
      subst (λ c. index_in h.queue.green_cut p ≤ index_in c p) (sym is.red_cut)
      (behind-rises h.queue.green_cut (names_of h.queue.reds) p is.rising)

  -- an action becomes known that is the next of its creator
  pub holds-known : (a : Action) → a.id.index ≡ suc (index_in h.queue.red_cut a.id.creator) → Holds (known_by h a)
  holds-known a next =
      let gc = h.queue.green_cut in
      let reds = names_of h.queue.reds in
      let last : a.id.index ≡ suc (index_in (cut_behind gc reds) a.id.creator) =
      next ∙ ap (λ c. suc (index_in c a.id.creator)) is.red_cut in
      let named = names-with_red h.queue.reds a in
      let yellow = and_parts (is_distinct h.queue.yellow) (are_red reds h.queue.yellow) is.yellow in
      record {
        rising = is.rising;
        greens = is.greens;
        count = is.count;
        red_cut = ap (λ c. raise c a.id) is.red_cut ∙ sym (ap (cut_behind gc) named ∙ behind-inserted gc reds a.id);
        reds = ap (run_on gc) named ∙ run-inserted gc reds a.id is.rising is.reds is.by_name last;
        by_name = ap ascend named ∙ ascend-inserted reds
            a.id (names-new gc reds a.id is.rising is.reds last) is.by_name;
        own = own-after h.id h.queue.red_cut h.own a.id rising-red is.own is.mine (omega arith);
        mine = are-after h.id h.own a.id is.mine;
        yellow = and_from (is_distinct h.queue.yellow) (are_red (names_of (with_red h.queue.reds a))
            h.queue.yellow) yellow.0
            (ap (λ ids. are_red ids h.queue.yellow) named ∙ red-inserted reds a.id h.queue.yellow yellow.1);
        members = is.members;
      }

  -- an action becomes green that is the next green one of its creator
  pub holds-green : (a : Action) → a.id.index ≡ suc (index_in h.queue.green_cut a.id.creator) → Holds (with_green h a)
  holds-green a next =
      let gc = h.queue.green_cut in
      let reds = names_of h.queue.reds in
      let out = taken-out gc reds a.id is.rising next is.reds in
      let named = names-without h.queue.reds a.id in
      let yellow = and_parts (is_distinct h.queue.yellow) (are_red reds h.queue.yellow) is.yellow in
      let up : index_in gc a.id.creator ≤ index_in h.queue.red_cut a.id.creator = green-below a.id.creator in
      let more = length-append h.queue.greens (a ∷ []) in
      let counted : suc (green_count h.queue) ≡ h.queue.white + length (h.queue.greens ++ a ∷ []) = omega arith in
      record {
        rising = rising-raise gc a.id is.rising;
        greens = λ p. counts a next p;
        count = sum-raise gc a.id is.rising next ∙ ap suc is.count ∙ counted;
        red_cut = ap (λ c. raise c a.id) is.red_cut ∙ sym (ap (cut_behind (raise gc a.id)) named ∙ out.cut_behind);
        reds = ap (run_on (raise gc a.id)) named ∙ out.run;
        by_name = ap ascend named ∙ ascend-filter (λ x. not (same_id x a.id)) reds is.by_name;
        own = own-after h.id h.queue.red_cut h.own a.id rising-red is.own is.mine (omega arith);
        mine = are-after h.id h.own a.id is.mine;
        yellow = and_from (is_distinct (without a.id h.queue.yellow))
            (are_red (names_of (without_action h.queue.reds a.id)) (without a.id h.queue.yellow))
            (distinct-kept (λ x. not (same_id x a.id)) h.queue.yellow yellow.0)
            (ap (λ ids. are_red ids (without a.id h.queue.yellow)) named ∙ red-left reds a.id h.queue.yellow yellow.1);
        members = subst (AreApart (after_green h.members (suc (green_count h.queue)) a))
            counted (AreApart-after_green h.members (green_count h.queue) a is.members);
      }
    where
      counts : (a : Action) → a.id.index ≡ suc (index_in h.queue.green_cut a.id.creator) → (p : ℕ) →
          CountsTo (index_in (raise h.queue.green_cut a.id) p) (indexes_of (h.queue.greens ++ a ∷ []) p)
      counts a next p = elim (cases_eq a.id.creator p) [
        | inl same ↦
            let at_p : a.id.index ≡ suc (index_in h.queue.green_cut p) =
            next ∙ ap (λ q. suc (index_in h.queue.green_cut q)) same in
            let top : index_in (raise h.queue.green_cut a.id) p ≡ suc (index_in h.queue.green_cut p) =
            index-same h.queue.green_cut a.id is.rising p same
            ∙ (let most : max (index_in h.queue.green_cut p) a.id.index ≡
            suc (index_in h.queue.green_cut p) = omega arith in most) in
            let list : indexes_of (h.queue.greens ++ a ∷ []) p ≡
            indexes_of h.queue.greens p ++ suc (index_in h.queue.green_cut p) ∷ [] =
            indexes-here h.queue.greens a p same ∙ ap (λ n. indexes_of h.queue.greens p ++ n ∷ []) at_p in
            subst (λ n. CountsTo n (indexes_of (h.queue.greens ++ a ∷ []) p)) (sym top)
            (subst (CountsTo (suc (index_in h.queue.green_cut p))) (sym list)
            (counts-next (index_in h.queue.green_cut p) (indexes_of h.queue.greens p) (is.greens p)))
        | inr apart ↦
            subst (λ n. CountsTo n (indexes_of (h.queue.greens ++ a ∷ []) p))
            (sym (index-other h.queue.green_cut a.id is.rising p apart))
            (subst (CountsTo (index_in h.queue.green_cut p))
            (sym (indexes-other h.queue.greens a p apart)) (is.greens p))
      ]
