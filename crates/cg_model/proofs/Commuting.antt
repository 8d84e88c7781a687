-- Knowing an action before others become green, or behind them, leaves the same.
use Rattle.std.proofs.Common.{◌≡◌, suc, ◌<◌, ◌≤◌, List, [], ◌∷◌, ◌++◌, find, cond, Bool, true, false, not, ◌&&◌, ◌||◌, Option, Some, None, refl, sym, ap, ap₂, ◌∙◌, subst, arith, inl, inr, nat_lt, nat_le, leb-true}
use Rattle.std.specs.Prelude.{◌==◌, option_and_then, IfSome}
use Rattle.std.proofs.lemmas.Bool.{cases_eq, cases_Bool, eq-eqb, and_parts, and_from}
use Rattle.std.proofs.lemmas.Option.{none-some, same_Some}
use Rattle.cg_base.specs.declared.action_id.ActionId.{ActionId}
use Rattle.cg_base.specs.Ids.{same_id, id_before, has_name}
use Rattle.cg_base.specs.Cuts.{index_in, raise}
use Rattle.cg_action.specs.declared.action.Action.{Action}
use Rattle.cg_queue.specs.Queue.{names_of, with_red, without_action, action_of}
use Rattle.cg_client.specs.Replica.{Held}
use Rattle.cg_client.specs.Marks.{after_first, is_first, with_green}
use Rattle.cg_disk_records.specs.Stored.{Stored}
use Rattle.cg_disk_records.specs.Following.{fits_known, turn_green, green_by_name, all_of}
use Rattle.cg_disk_records.specs.Holds.{cut_behind, ascend, Holds}
use Rattle.cg_base.specs.IdLaws.{same_id-false, same_id-back}
use Rattle.cg_queue.specs.NameLaws.{found-named}
use Rattle.cg_disk_records.specs.CutRaiseLaws.{raise-commute, index-rises, raise-below}
use Rattle.cg_disk_records.specs.RunMarkLaws.{run-names, ascend-less, ascend-filter-from}
use Rattle.cg_model.proofs.Rows.{find-red}
use Rattle.cg_disk_records.specs.HeldLaws.{names-without}
use Rattle.cg_disk_records.specs.KnownLaws.{none-all, greened-from, fits-next}
use Rattle.cg_disk_records.specs.HoldsMarkLaws.{known_by, own-same, rising-red, holds-known, holds-green}

pub greened-to : (s : Stored) (id : ActionId) (b : Action) → action_of s.queue id ≡ Some b → b.id.index ≡ suc (index_in s.queue.green_cut b.id.creator) →
    green_by_name s id ≡ Some (with_green s b)
greened-to s id b found next =
    ap (option_and_then (turn_green s)) found
    ∙ ap (λ c. cond c (Some (with_green s b)) None) (eq-eqb b.id.index (suc (index_in s.queue.green_cut b.id.creator)) next)

-- ---- what is found

named-so : (xs : List Action) (id : ActionId) (b : Action) → find (λ a. same_id a.id id) xs ≡ Some b → b.id ≡ id
named-so xs id b e = subst (λ (o : Option Action). IfSome o (λ a. a.id ≡ id)) e (found-named xs id)

names-found : (xs : List Action) (id : ActionId) (b : Action) → find (λ a. same_id a.id id) xs ≡ Some b → has_name (names_of xs) id ≡ true
names-found [] id b e = absurd (none-some b e)
names-found (x ∷ xs) id b e = elim (cases_Bool (same_id x.id id)) [
  | inl here ↦ rw (same_id-back x.id id here) refl
  | inr other ↦ or-second (same_id id x.id) (has_name (names_of xs) id) (names-found xs id b (rw other at e))
]
  where
    or-second : (x y : Bool) → y ≡ true → (x || y) ≡ true
    or-second true y e = refl
    or-second false y e = e

-- the next green action of its creator, if it is known, is found among the reds
pub red-within : (h : Held) (id : ActionId) → Holds h → has_name (names_of h.queue.reds) id ≡ true → id.index ≤ index_in h.queue.red_cut id.creator
red-within h id is red =
    let both = and_parts (nat_lt (index_in h.queue.green_cut id.creator) id.index) (nat_le id.index (index_in (cut_behind h.queue.green_cut (names_of h.queue.reds)) id.creator))
    (sym (run-names h.queue.green_cut (names_of h.queue.reds) id is.rising is.reds) ∙ red) in
    leb-true id.index (index_in h.queue.red_cut id.creator) (ap (λ c. nat_le id.index (index_in c id.creator)) is.red_cut ∙ both.1)

greened-known : (h : Held) (id : ActionId) (b : Action) → Holds h → action_of h.queue id ≡ Some b → b.id.index ≡ suc (index_in h.queue.green_cut b.id.creator) →
    b.id.index ≤ index_in h.queue.red_cut b.id.creator
greened-known h id b is found next =
    let named : b.id ≡ id = named-so (h.queue.greens ++ h.queue.reds) id b found in
    let above : index_in h.queue.green_cut id.creator < id.index =
    subst (λ (x : ActionId). index_in h.queue.green_cut x.creator < x.index) named (let lt : index_in h.queue.green_cut b.id.creator < b.id.index = omega arith in lt) in
    let among : find (λ a. same_id a.id id) h.queue.reds ≡ Some b =
    sym (find-red h.queue.greens h.queue.reds id (index_in h.queue.green_cut id.creator) (is.greens id.creator) above) ∙ found in
    subst (λ (x : ActionId). x.index ≤ index_in h.queue.red_cut x.creator) (sym named)
    (red-within h id is (names-found h.queue.reds id b among))

-- another action among the reds isn't found
find-beside : (xs ys : List Action) (a : Action) (id : ActionId) → same_id a.id id ≡ false →
    find (λ b. same_id b.id id) (xs ++ with_red ys a) ≡ find (λ b. same_id b.id id) (xs ++ ys)
find-beside (x ∷ xs) ys a id other = elim (cases_Bool (same_id x.id id)) [
  | inl here ↦ rw here refl
  | inr apart ↦ rw apart (find-beside xs ys a id other)
]
find-beside [] [] a id other = rw other refl
find-beside [] (y ∷ ys) a id other = elim (cases_Bool (id_before a.id y.id)) [
  | inl before ↦ rw (before, other) refl
  | inr later ↦ rw later (elim (cases_Bool (same_id y.id id)) [
    | inl here ↦ rw here refl
    | inr apart ↦ rw apart (find-beside [] ys a id other)
  ])
]

-- ---- the reds with one and without another

-- in front of names behind it
with-front : (zs : List Action) (a : Action) → ascend (a.id ∷ names_of zs) ≡ true → with_red zs a ≡ a ∷ zs
with-front [] a up = refl
with-front (z ∷ zs) a up =
    ap (λ b. cond b (a ∷ z ∷ zs) (z ∷ with_red zs a)) (and_parts (id_before a.id z.id) (ascend (z.id ∷ names_of zs)) up).0

reds-commute : (reds : List Action) (a : Action) (id : ActionId) → ascend (names_of reds) ≡ true → same_id a.id id ≡ false →
    without_action (with_red reds a) id ≡ with_red (without_action reds id) a
reds-commute [] a id up other = rw other refl
reds-commute (x ∷ reds) a id up other =
    let rest = reds-commute reds a id (ascend-less x.id (names_of reds) up) other in
    elim (cases_Bool (id_before a.id x.id)) [
      | inl before ↦
          let front : ascend (a.id ∷ names_of (without_action (x ∷ reds) id)) ≡ true =
          ap (λ ids. ascend (a.id ∷ ids)) (names-without (x ∷ reds) id)
          ∙ ascend-filter-from (λ y. not (same_id y id)) a.id (names_of (x ∷ reds)) (and_from (id_before a.id x.id) (ascend (names_of (x ∷ reds))) before up) in
          ap (λ zs. without_action zs id) (ap (λ b. cond b (a ∷ x ∷ reds) (x ∷ with_red reds a)) before)
          ∙ ap (λ b. cond b (a ∷ without_action (x ∷ reds) id) (without_action (x ∷ reds) id)) (ap not other)
          ∙ sym (with-front (without_action (x ∷ reds) id) a front)
      | inr later ↦
          ap (λ zs. without_action zs id) (ap (λ b. cond b (a ∷ x ∷ reds) (x ∷ with_red reds a)) later)
          ∙ elim (cases_Bool (same_id x.id id)) [
            | inl taken ↦ rw taken rest
            | inr stays ↦ rw (stays, later) (ap (λ zs. x ∷ zs) rest)
          ]
    ]

-- ---- one action becomes known before another becomes green

pub record Commutes (y : Stored) (b : Action) (id : ActionId) (a : Action) : Type 0 where
  pub fits : fits_known y a ≡ true
  pub green : green_by_name (known_by y a) id ≡ Some (known_by (with_green y b) a)

pub commutes : (y : Stored) (b : Action) (id : ActionId) (a : Action) → Holds y → action_of y.queue id ≡ Some b →
    b.id.index ≡ suc (index_in y.queue.green_cut b.id.creator) → fits_known (with_green y b) a ≡ true → Commutes y b id a
commutes y b id a is found next fits =
    let rc = y.queue.red_cut in
    let known : b.id.index ≤ index_in rc b.id.creator = greened-known y id b is found next in
    let cut : raise rc b.id ≡ rc = raise-below rc b.id (rising-red y is) known in
    let own : after_first y.own b.id ≡ y.own = own-same rc y.own b.id is.own known in
    let fits_here : fits_known y a ≡ true = fits-same cut own ∙ fits in
    let new : a.id.index ≡ suc (index_in rc a.id.creator) = fits-next y a fits_here in
    let apart : same_id a.id b.id ≡ false = elim (cases_eq a.id.creator b.id.creator) [
      | inl same ↦
          let at_b : index_in rc a.id.creator ≡ index_in rc b.id.creator = ap (index_in rc) same in
          same_id-false a.id b.id (inr (λ e. omega arith))
      | inr differ ↦ same_id-false a.id b.id (inl differ)
    ] in
    let named : b.id ≡ id = named-so (y.queue.greens ++ y.queue.reds) id b found in
    let still : action_of (known_by y a).queue id ≡ Some b =
    find-beside y.queue.greens y.queue.reds a id (ap (same_id a.id) (sym named) ∙ apart) ∙ found in
    let reached : index_in rc b.id.creator ≤ index_in (raise rc a.id) b.id.creator = index-rises rc a.id (rising-red y is) b.id.creator in
    let own_after : after_first (after_first y.own a.id) b.id ≡ after_first (after_first y.own b.id) a.id =
    own-same (raise rc a.id) (after_first y.own a.id) b.id (holds-known y is a new).own (omega arith) ∙ ap (λ xs. after_first xs a.id) (sym own) in
    record {
      fits = fits_here;
      green = greened-to (known_by y a) id b still next
          ∙ ap Some (one-order (raise-commute rc a.id b.id) (reds-commute y.queue.reds a b.id is.by_name apart) own_after);
    }
  where
    fits-same : raise y.queue.red_cut b.id ≡ y.queue.red_cut → after_first y.own b.id ≡ y.own → fits_known y a ≡ fits_known (with_green y b) a
    fits-same cut own =
        ap₂ (λ (c : List ActionId) (o : List Action). (a.id.index == suc (index_in c a.id.creator)) && (not (a.id.creator == y.id) || is_first (names_of o) a.id))
        (sym cut) (sym own)

    one-order : raise (raise y.queue.red_cut a.id) b.id ≡ raise (raise y.queue.red_cut b.id) a.id →
        without_action (with_red y.queue.reds a) b.id ≡ with_red (without_action y.queue.reds b.id) a →
        after_first (after_first y.own a.id) b.id ≡ after_first (after_first y.own b.id) a.id →
        with_green (known_by y a) b ≡ known_by (with_green y b) a
    one-order e f g = λ i. let h = with_green y b in let q = h.queue in record h { queue = record q { red_cut = e i; reds = f i }; own = g i }

-- ---- and before many

pub record KnownBefore (y x : Stored) (g : List ActionId) (a : Action) : Type 0 where
  pub fits : fits_known y a ≡ true
  pub green : all_of green_by_name (Some (known_by y a)) g ≡ Some (known_by x a)

before-one : (g : List ActionId) (y x : Stored) (a : Action) (id : ActionId) → Holds y → fits_known x a ≡ true →
    ((z : Stored) → Holds z → all_of green_by_name (Some z) g ≡ Some x → KnownBefore z x g a) →
    (o : Option Stored) → green_by_name y id ≡ o → all_of green_by_name o g ≡ Some x → KnownBefore y x (id ∷ g) a
before-one g y x a id is fits more None e rest = absurd (none-some x (sym (none-all green_by_name g) ∙ rest))
before-one g y x a id is fits more (Some z) e rest =
    let one = greened-from y id z e in
    let z_holds : Holds z = subst Holds (sym one.is) (holds-green y is one.action one.next) in
    let behind = more z z_holds rest in
    let both = commutes y one.action id a is one.found one.next (ap (λ (s : Stored). fits_known s a) (sym one.is) ∙ behind.fits) in
    record {
      fits = both.fits;
      green = ap (λ o. all_of green_by_name o g) (both.green ∙ ap (λ (s : Stored). Some (known_by s a)) (sym one.is)) ∙ behind.green;
    }

pub known-before : (g : List ActionId) (y x : Stored) (a : Action) → Holds y → all_of green_by_name (Some y) g ≡ Some x → fits_known x a ≡ true → KnownBefore y x g a
known-before [] y x a is green fits =
    let same : y ≡ x = same_Some y x green in
    record { fits = ap (λ (s : Stored). fits_known s a) same ∙ fits; green = ap (λ (s : Stored). Some (known_by s a)) same }
known-before (id ∷ g) y x a is green fits =
    before-one g y x a id is fits (λ z z_holds rest. known-before g z x a z_holds rest fits) (green_by_name y id) refl green
