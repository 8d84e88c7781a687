-- Actions that become known, one after another; and that a turn keeps what holds of what a replica holds.
use Rattle.std.proofs.Common.{◌≡◌, suc, ◌≤◌, List, [], ◌∷◌, Bool, true, false, not, ◌||◌, Some, refl, sym, ap, ◌∙◌, arith, inl, inr, eqb-true, nat_lt}
use Rattle.std.specs.Prelude.{◌==◌}
use Rattle.std.proofs.lemmas.Bool.{cases_eq, cases_order, eq-eqb, ne_eqb, lt-ltb, and_parts, and_from}
use Rattle.cg_base.specs.Cuts.{index_in}
use Rattle.cg_action.specs.declared.action.Action.{Action}
use Rattle.cg_queue.specs.Queue.{names_of}
use Rattle.cg_base.specs.Lists.{Each}
use Rattle.cg_client.specs.Replica.{Held, created, last_index}
use Rattle.cg_client.specs.Turn.{Turn}
use Rattle.cg_client.specs.Marks.{is_unmade, is_first, place_green}
use Rattle.cg_disk_records.specs.Following.{fits_known, know}
use Rattle.cg_disk_records.specs.Holds.{run_on, Holds}
use Rattle.cg_base.specs.IdLaws.{same_id-true, same_id-self}
use Rattle.cg_disk_records.specs.RunMarkLaws.{run-head}
use Rattle.cg_model.proofs.Rows.{IsRule}
use Rattle.cg_disk_records.specs.HeldLaws.{are_of}
use Rattle.cg_disk_records.specs.KnownLaws.{holds-own}
use Rattle.cg_disk_records.specs.HoldsMarkLaws.{known_by, holds-known, holds-green}
use Rattle.cg_disk_records.specs.HoldsValueLaws.{holds-values}

-- ---- an action that may become known

pub know-some : (s : Held) (a : Action) → fits_known s a ≡ true → know s a ≡ Some (known_by s a)
know-some s a fits = rw fits refl

-- the first own action may
pub fits-own : (h : Held) (a : Action) (rest : List Action) → h.own ≡ a ∷ rest → a.id.index ≡ suc (index_in h.queue.red_cut a.id.creator) → fits_known h a ≡ true
fits-own h a rest own next =
    and_from (a.id.index == suc (index_in h.queue.red_cut a.id.creator)) (not (a.id.creator == h.id) || is_first (names_of h.own) a.id)
    (eq-eqb a.id.index (suc (index_in h.queue.red_cut a.id.creator)) next)
    (or-second (not (a.id.creator == h.id)) (is_first (names_of h.own) a.id) (ap (λ xs. is_first (names_of xs) a.id) own ∙ same_id-self a.id))
  where
    or-second : (x y : Bool) → y ≡ true → (x || y) ≡ true
    or-second true y e = refl
    or-second false y e = e

-- so may the next one of its creator that was made
pub fits-made : (h : Held) (a : Action) → Holds h → a.id.index ≡ suc (index_in h.queue.red_cut a.id.creator) → is_unmade h a ≡ false → fits_known h a ≡ true
unfolding is_unmade
fits-made h a is next made = elim (cases_eq a.id.creator h.id) [
  | inl same ↦ own h.own refl same (within (nat_lt-off (rw (eq-eqb a.id.creator h.id same) at made)))
  | inr apart ↦
      and_from (a.id.index == suc (index_in h.queue.red_cut a.id.creator)) (not (a.id.creator == h.id) || is_first (names_of h.own) a.id)
      (eq-eqb a.id.index (suc (index_in h.queue.red_cut a.id.creator)) next) (rw (ne_eqb a.id.creator h.id apart) refl)
]
  where
    nat_lt-off : nat_lt (created h) a.id.index ≡ false → nat_lt (created h) a.id.index ≡ false
    nat_lt-off e = e

    within : nat_lt (created h) a.id.index ≡ false → a.id.index ≤ created h
    within off = elim (cases_order a.id.index (created h)) [
      | inl same ↦ omega arith
      | inr apart ↦ elim apart [
        | inl lt ↦ omega arith
        | inr gt ↦ absurd (let clash : true ≡ false = sym (lt-ltb (created h) a.id.index gt) ∙ off in cc)
      ]
    ]

    own : (list : List Action) → h.own ≡ list → a.id.creator ≡ h.id → a.id.index ≤ created h → fits_known h a ≡ true
    own [] e same le =
        let none : last_index h.own ≡ 0 = ap last_index e in
        let here : index_in h.queue.red_cut a.id.creator ≡ index_in h.queue.red_cut h.id = ap (index_in h.queue.red_cut) same in
        absurd (omega arith)
    own (b ∷ rest) e same le =
        let first : b.id.index ≡ suc (index_in h.queue.red_cut b.id.creator) =
        run-head h.queue.red_cut b.id (names_of rest) (ap (λ xs. run_on h.queue.red_cut (names_of xs)) (sym e) ∙ is.own) in
        let of_me : b.id.creator ≡ h.id = eqb-true b.id.creator h.id (and_parts (b.id.creator == h.id) (are_of h.id rest) (ap (are_of h.id) (sym e) ∙ is.mine)).0 in
        let creators : b.id.creator ≡ a.id.creator = of_me ∙ sym same in
        let indexes : b.id.index ≡ a.id.index = first ∙ ap (λ p. suc (index_in h.queue.red_cut p)) creators ∙ sym next in
        and_from (a.id.index == suc (index_in h.queue.red_cut a.id.creator)) (not (a.id.creator == h.id) || is_first (names_of h.own) a.id)
        (eq-eqb a.id.index (suc (index_in h.queue.red_cut a.id.creator)) next)
        (rw (eq-eqb a.id.creator h.id same) (ap (λ xs. is_first (names_of xs) a.id) e ∙ same_id-true b.id a.id creators indexes))

-- ---- what holds is kept

pub each-any : (list : List Action) → Each (λ a. Unit {0}) list
each-any [] = tt
each-any (a ∷ list) = (tt, each-any list)

abbrev pub HoldsIn : Turn → Type 0
HoldsIn t = Holds t.replica.held

pub holds-placed : (t : Turn) (a : Action) → Holds t.replica.held → a.id.index ≡ suc (index_in t.replica.held.queue.green_cut a.id.creator) → Holds (place_green t a).replica.held
unfolding place_green
holds-placed t a is next = holds-green t.replica.held is a next

pub holds-rule : IsRule HoldsIn (λ a. Unit {0})
holds-rule = record {
  holds = λ t is. is;
  reds = λ t is. each-any t.replica.held.queue.reds;
  quiet = λ t state sent is. is;
  values = λ t yellow valid prim index v buffered red is. holds-values t.replica.held yellow valid prim index v buffered red is;
  known = λ t a fine next made is. holds-known t.replica.held is a next;
  green = λ t a fine next made is. holds-placed t a is next;
  own_red = λ t is. holds-own t is;
}
