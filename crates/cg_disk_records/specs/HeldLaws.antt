-- What marks make of the names that a replica holds, of its own actions, of the last one that it created and of the white line.
use Rattle.std.proofs.Common.{◌⊎◌, ◌≡◌, ℕ, suc, ◌<◌, ◌≤◌, ◌≢◌, List, [], ◌∷◌, ◌++◌, Bool, true, false, not, max, fold, refl, sym, ap, ◌∙◌, arith, inl, inr, eqb-true, map, min, find}
use Rattle.std.specs.Prelude.{◌==◌, Some}
use Rattle.std.specs.List.{list_all}
use Rattle.std.proofs.lemmas.Bool.{cases_eq, cases_order, cases_Bool, ne_eqb, and_parts, and_from}
use Rattle.std.proofs.lemmas.List.{map-append}
use Rattle.cg_base.specs.declared.action_id.ActionId.{ActionId}
use Rattle.cg_base.specs.Ids.{same_id, id_before}
use Rattle.cg_base.specs.Cuts.{index_in, raise}
use Rattle.cg_action.specs.declared.action.Action.{Action}
use Rattle.cg_members.specs.Laws.{NoLineAbove}
use Rattle.cg_queue.specs.Queue.{names_of, with_red, without_action}
use Rattle.cg_client.specs.Replica.{last_index, Held, created}
use Rattle.cg_client.specs.Marks.{after_first}
use Rattle.cg_disk_records.specs.Holds.{run_on, cut_behind, Rising}
use Rattle.cg_base.specs.IdLaws.{same_id-true, same_id-false, same_name}
use Rattle.cg_disk_records.specs.CutRaiseLaws.{rising-raise, index-same, raise-below}
use Rattle.cg_disk_records.specs.RunMarkLaws.{run-head, run-rest, lacks, run-other, without, inserted}
use Rattle.std.specs.Option.{unwrap_or, option_to_list}
use Rattle.cg_base.specs.Lists.{lesser, least_of, Each}
use Rattle.cg_members.specs.declared.server.Server.{Server}
use Rattle.cg_disk_records.specs.Stored.{whiten}

pub names-with_red : (reds : List Action) (a : Action) → names_of (with_red reds a) ≡ inserted (names_of reds) a.id
names-with_red [] a = refl
names-with_red (b ∷ reds) a = elim (cases_Bool (id_before a.id b.id)) [
  | inl before ↦ rw before refl
  | inr later ↦ rw later (ap (λ ids. b.id ∷ ids) (names-with_red reds a))
]

pub names-without : (actions : List Action) (id : ActionId) →
    names_of (without_action actions id) ≡ without id (names_of actions)
names-without [] id = refl
names-without (b ∷ actions) id = elim (cases_Bool (same_id b.id id)) [
  | inl same ↦ rw same (names-without actions id)
  | inr other ↦ rw other (ap (λ ids. b.id ∷ ids) (names-without actions id))
]

pub names-behind : (all : List Action) (a : Action) → names_of (all ++ a ∷ []) ≡ names_of all ++ a.id ∷ []
names-behind all a = map-append (λ (b : Action). b.id) all (a ∷ [])

abbrev pub are_of : ℕ → List Action → Bool
are_of me own = list_all (λ a. a.id.creator == me) own

pub are-lacks : (me p : ℕ) (own : List Action) → me ≢ p → are_of me own ≡ true → lacks p (names_of own) ≡ true
are-lacks me p [] apart mine = refl
are-lacks me p (a ∷ own) apart mine =
    let parts = and_parts (a.id.creator == me) (are_of me own) mine in
    let of_me : a.id.creator ≡ me = eqb-true a.id.creator me parts.0 in
    and_from (not (a.id.creator == p)) (lacks p (names_of own))
    (ap not (ne_eqb a.id.creator p (λ e. apart (sym of_me ∙ e)))) (are-lacks me p own apart parts.1)

pub are-after : (me : ℕ) (own : List Action) (id : ActionId) → are_of me own ≡ true →
    are_of me (after_first own id) ≡ true
are-after me [] id mine = refl
are-after me (a ∷ own) id mine = elim (cases_Bool (same_id a.id id)) [
  | inl same ↦ rw same ((and_parts (a.id.creator == me) (are_of me own) mine).1)
  | inr other ↦ rw other mine
]

pub after-there : (a : Action) (own : List Action) (id : ActionId) → same_id a.id id ≡ false →
    after_first (a ∷ own) id ≡ a ∷ own
after-there a own id other = rw other refl

pub after-here : (a : Action) (own : List Action) (id : ActionId) → same_id a.id id ≡ true →
    after_first (a ∷ own) id ≡ own
after-here a own id same = rw same refl

-- where a name becomes known that was known, or is the next of its creator, the own actions go on behind it
pub own-after : (me : ℕ) (red : List ActionId) (own : List Action) (id : ActionId) → Rising 0 red →
    run_on red (names_of own) ≡ true → are_of me own ≡ true →
    id.index ≤ suc (index_in red id.creator) → run_on (raise red id) (names_of (after_first own id)) ≡ true
own-after me red [] id rising run mine le = refl
own-after me red (a ∷ own) id rising run mine le =
    let next : a.id.index ≡ suc (index_in red a.id.creator) = run-head red a.id (names_of own) run in
    let of_me : a.id.creator ≡ me = eqb-true a.id.creator me (and_parts (a.id.creator == me) (are_of me own) mine).0 in
    elim (cases_eq a.id.creator id.creator) [
      | inl same ↦
          let at_red : index_in red a.id.creator ≡ index_in red id.creator = ap (index_in red) same in
          elim (cases_order a.id.index id.index) [
            | inl index ↦
                ap (λ xs. run_on (raise red id) (names_of xs)) (after-here a own id (same_id-true a.id id same index))
                ∙ ap (λ x. run_on (raise red x) (names_of own)) (sym (same_name a.id id same index))
                ∙ run-rest red a.id (names_of own) run
            | inr apart ↦
                ap (λ xs. run_on (raise red id) (names_of xs)) (after-there a own
                id (same_id-false a.id id (inr (λ e. differ apart e))))
                ∙ ap (λ c. run_on c (names_of (a ∷ own))) (raise-below red id
                rising (elim apart [ inl lt ↦ absurd (omega arith) | inr gt ↦ omega arith ])) ∙ run
          ]
      | inr apart ↦
          ap (λ xs. run_on (raise red id) (names_of xs)) (after-there a own id (same_id-false a.id id (inl apart)))
          ∙ run-other red (names_of (a ∷ own)) id
          rising (are-lacks me id.creator (a ∷ own) (λ e. apart (of_me ∙ e)) mine) run
    ]
  where
    differ : (a.id.index < id.index) ⊎ (id.index < a.id.index) → a.id.index ≡ id.index → ⊥
    differ apart e = elim apart [ inl lt ↦ omega arith | inr gt ↦ omega arith ]

-- behind a run of own actions the last index is the creator's
pub last-above : (cut : List ActionId) (me : ℕ) (a : Action) (own : List Action) → Rising 0 cut →
    run_on cut (names_of (a ∷ own)) ≡ true → are_of me (a ∷ own) ≡ true →
    index_in cut me < last_index (a ∷ own)
last-above cut me a [] rising run mine =
    let next : a.id.index ≡ suc (index_in cut a.id.creator) = run-head cut a.id [] run in
    let of_me : a.id.creator ≡ me = eqb-true a.id.creator me (and_parts (a.id.creator == me) true mine).0 in
    let here : index_in cut a.id.creator ≡ index_in cut me = ap (index_in cut) of_me in
    omega arith
last-above cut me a (b ∷ own) rising run mine =
    let parts = and_parts (a.id.creator == me) (are_of me (b ∷ own)) mine in
    let of_me : a.id.creator ≡ me = eqb-true a.id.creator me parts.0 in
    let reached : index_in (raise cut a.id) me ≡ max (index_in cut me) a.id.index =
    index-same cut a.id rising me of_me in
    let rest = last-above (raise cut a.id) me b
    own (rising-raise cut a.id rising) (run-rest cut a.id (names_of (b ∷ own)) run) parts.1 in
    omega arith

pub created-behind : (cut : List ActionId) (me : ℕ) (own : List Action) → Rising 0 cut →
    run_on cut (names_of own) ≡ true → are_of me own ≡ true →
    index_in (cut_behind cut (names_of own)) me ≡ max (index_in cut me) (last_index own)
created-behind cut me [] rising run mine = omega arith
created-behind cut me (a ∷ []) rising run mine =
    index-same cut a.id rising me (eqb-true a.id.creator me (and_parts (a.id.creator == me) true mine).0)
created-behind cut me (a ∷ b ∷ own) rising run mine =
    let parts = and_parts (a.id.creator == me) (are_of me (b ∷ own)) mine in
    let of_me : a.id.creator ≡ me = eqb-true a.id.creator me parts.0 in
    let reached : index_in (raise cut a.id) me ≡ max (index_in cut me) a.id.index =
    index-same cut a.id rising me of_me in
    let rest_run = run-rest cut a.id (names_of (b ∷ own)) run in
    let above = last-above (raise cut a.id) me b own (rising-raise cut a.id rising) rest_run parts.1 in
    let rest = created-behind (raise cut a.id) me (b ∷ own) (rising-raise cut a.id rising) rest_run parts.1 in
    rest ∙ (let most : max (index_in (raise cut a.id) me) (last_index (b ∷ own)) ≡
    max (index_in cut me) (last_index (b ∷ own)) = omega arith in most)

pub least-below : (n : ℕ) (ns : List ℕ) → unwrap_or (fold lesser (Some n) ns) 0 ≤ n
least-below n [] = omega arith
least-below n (k ∷ ns) = let rest = least-below (min k n) ns in omega arith

pub line-below : (n : ℕ) (servers : List Server) → NoLineAbove n servers →
    unwrap_or (least_of (map (λ s. s.line) servers)) 0 ≤ n
line-below n [] lines = omega arith
line-below n (s ∷ servers) lines =
    let first : s.line ≤ n = lines.0 in
    let least : unwrap_or (fold lesser (Some s.line) (map (λ (x : Server). x.line) servers)) 0 ≤ s.line =
    least-below s.line (map (λ (x : Server). x.line) servers) in
    omega arith

pub each-found : (Fine : Action → Type 0) (p : Action → Bool) (xs : List Action) → Each Fine xs →
    Each Fine (option_to_list (find p xs))
each-found Fine p [] fine = tt
each-found Fine p (x ∷ xs) fine = elim (cases_Bool (p x)) [
  | inl here ↦ rw here (fine.0, tt)
  | inr other ↦ rw other (each-found Fine p xs fine.1)
]

pub whitened-created : (h : Held) → created (whiten h) ≡ created h
unfolding whiten
whitened-created h = refl
