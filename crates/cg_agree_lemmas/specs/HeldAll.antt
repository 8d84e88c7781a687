-- An installation makes all yellow actions green, then all other reds; and own actions that become red all do.
use Rattle.std.proofs.Common.{◌⊎◌, ◌≡◌, ℕ, suc, ◌≤◌, List, [], ◌∷◌, ◌++◌, Bool, true, false, ◌||◌, max, find, refl, sym, ap, ap₂, ◌∙◌, subst, arith, inl, inr, if◌then◌else◌, nat_lt, nat_le}
use Rattle.std.specs.Option.{option_to_list}
use Rattle.std.specs.List.{list_all}
use Rattle.std.proofs.lemmas.Bool.{cases_Bool, lt-ltb, le-leb, and_parts, and_from}
use Rattle.std.proofs.lemmas.List.{append_assoc, map-append}
use Rattle.cg_base.specs.declared.action_id.ActionId.{ActionId}
use Rattle.cg_base.specs.declared.weighted.Weighted.{Weighted}
use Rattle.cg_base.specs.Ids.{has_name, same_id}
use Rattle.cg_base.specs.Cuts.{index_in, raise}
use Rattle.cg_base.specs.IdLaws.{same_id-is, same_id-back}
use Rattle.cg_action.specs.declared.action.Action.{Action}
use Rattle.cg_queue.specs.Queue.{QueueView, names_of, action_of}
use Rattle.cg_client.specs.Replica.{Held}
use Rattle.cg_client.specs.Turn.{Turn}
use Rattle.cg_client.specs.Install.{actions_named, valid_yellow, yellow_green, reds_green}
use Rattle.cg_disk_records.specs.Holds.{run_on, cut_behind, Rising}
use Rattle.cg_disk_records.specs.CutRaiseLaws.{index-same, rising-raise, behind-rises}
use Rattle.cg_agree_lemmas.specs.HeldMarks.{IsOneself, are_within, rising-green}
use Rattle.cg_agree_lemmas.specs.HeldInstall.{green-run, reds_but}
use Rattle.cg_disk_records.specs.RunMarkLaws.{run-head, run-rest, run-names}

-- ---- reds

-- where all that is known is green nothing is red
pub none-red : (start : List Weighted) (h : Held) (all : List Action) → IsOneself start h all → h.queue.green_cut ≡ h.queue.red_cut → h.queue.reds ≡ []
none-red start h all is same = at h.queue.reds refl where
  at : (reds : List Action) → h.queue.reds ≡ reds → h.queue.reds ≡ []
  at [] e = e
  at (a ∷ reds) e =
      let gc = h.queue.green_cut in
      let rising = rising-green start h all is in
      let run : run_on gc (names_of (a ∷ reds)) ≡ true = ap (λ xs. run_on gc (names_of xs)) (sym e) ∙ is.contiguous.reds in
      let next : a.id.index ≡ suc (index_in gc a.id.creator) = run-head gc a.id (names_of reds) run in
      let reached : index_in (raise gc a.id) a.id.creator ≡ max (index_in gc a.id.creator) a.id.index = index-same gc a.id rising a.id.creator refl in
      let more : index_in (raise gc a.id) a.id.creator ≤ index_in (cut_behind (raise gc a.id) (names_of reds)) a.id.creator =
      behind-rises (raise gc a.id) (names_of reds) a.id.creator (rising-raise gc a.id rising) in
      let end : cut_behind (raise gc a.id) (names_of reds) ≡ gc = sym (ap (λ xs. cut_behind gc (names_of xs)) e) ∙ sym is.made_of.red_cut ∙ sym same in
      let last : index_in (cut_behind (raise gc a.id) (names_of reds)) a.id.creator ≡ index_in gc a.id.creator = ap (λ c. index_in c a.id.creator) end in
      absurd (omega arith)

-- the names of a run are within the cut behind it
pub run-within : (cut ids : List ActionId) → Rising 0 cut → run_on cut ids ≡ true → are_within (cut_behind cut ids) ids ≡ true
run-within cut [] rising run = refl
run-within cut (x ∷ ids) rising run =
    let reached : index_in (raise cut x) x.creator ≡ max (index_in cut x.creator) x.index = index-same cut x rising x.creator refl in
    let more : index_in (raise cut x) x.creator ≤ index_in (cut_behind (raise cut x) ids) x.creator = behind-rises (raise cut x) ids x.creator (rising-raise cut x rising) in
    and_from (nat_le x.index (index_in (cut_behind (raise cut x) ids) x.creator)) (are_within (cut_behind (raise cut x) ids) ids)
    (le-leb x.index (index_in (cut_behind (raise cut x) ids) x.creator) (omega arith)) (run-within (raise cut x) ids (rising-raise cut x rising) (run-rest cut x ids run))

-- all reds become green
pub record AllGreen (start : List Weighted) (old new : Held) (all list : List Action) : Type 0 where
  pub kept : new.queue.greens ≡ old.queue.greens ++ list
  pub is : IsOneself start new (all ++ list)
  pub green_cut : new.queue.green_cut ≡ old.queue.red_cut
  pub red_cut : new.queue.red_cut ≡ old.queue.red_cut
  pub reds : new.queue.reds ≡ []

pub reds-green : (start : List Weighted) (all : List Action) (t : Turn) → IsOneself start t.replica.held all →
    AllGreen start t.replica.held (reds_green t).replica.held all t.replica.held.queue.reds
reds-green start all t is =
    let h = t.replica.held in
    let within = ap (λ c. are_within c (names_of h.queue.reds)) is.made_of.red_cut ∙ run-within h.queue.green_cut (names_of h.queue.reds) (rising-green start h all is) is.contiguous.reds in
    let g = green-run start all t h.queue.reds is is.contiguous.reds within in
    let cut = g.green_cut ∙ sym is.made_of.red_cut in
    record { kept = g.kept; is = g.is; green_cut = cut; red_cut = g.red_cut; reds = none-red start (reds_green t).replica.held (all ++ h.queue.reds) g.is (cut ∙ sym g.red_cut) }

-- ---- yellow actions

-- the kept actions of names that stand among the reds have these names
one-named : (greens reds : List Action) (id : ActionId) → has_name (names_of reds) id ≡ true →
    names_of (option_to_list (find (λ a. same_id a.id id) (greens ++ reds))) ≡ id ∷ []
one-named (g ∷ greens) reds id there = elim (cases_Bool (same_id g.id id)) [
  | inl same ↦ rw same (ap (λ x. x ∷ []) (same_id-is g.id id same))
  | inr other ↦ rw other (one-named greens reds id there)
]
one-named [] [] id there = absurd (let clash : false ≡ true = there in cc)
one-named [] (a ∷ reds) id there = elim (cases_Bool (same_id a.id id)) [
  | inl same ↦ rw same (ap (λ x. x ∷ []) (same_id-is a.id id same))
  | inr other ↦ rw other (one-named [] reds id (rest (cases_Bool (same_id id a.id)) other))
] where
  rest : (same_id id a.id ≡ true) ⊎ (same_id id a.id ≡ false) → same_id a.id id ≡ false → has_name (names_of reds) id ≡ true
  rest (inl same) other = absurd (let clash : true ≡ false = sym (same_id-back id a.id same) ∙ other in cc)
  rest (inr apart) other = ap (λ b. b || has_name (names_of reds) id) (sym apart) ∙ there

abbrev are_red : QueueView → List ActionId → Bool
are_red q ids = list_all (λ id. has_name (names_of q.reds) id) ids

all-named : (q : QueueView) (ids : List ActionId) → are_red q ids ≡ true → names_of (actions_named q ids) ≡ ids
all-named q [] red = refl
all-named q (id ∷ ids) red =
    let parts = and_parts (has_name (names_of q.reds) id) (are_red q ids) red in
    map-append (λ (a : Action). a.id) (option_to_list (action_of q id)) (actions_named q ids)
    ∙ ap₂ (λ xs ys. xs ++ ys) (one-named q.greens q.reds id parts.0) (all-named q ids parts.1)

-- each yellow name is that of a red action
yellow-red : (start : List Weighted) (h : Held) (all : List Action) → IsOneself start h all → (cut ids : List ActionId) → Rising 0 cut →
    ((p : ℕ) → index_in h.queue.green_cut p ≤ index_in cut p) → run_on cut ids ≡ true → are_within h.queue.red_cut ids ≡ true → are_red h.queue ids ≡ true
yellow-red start h all is cut [] rising up run known = refl
yellow-red start h all is cut (id ∷ ids) rising up run known =
    let gc = h.queue.green_cut in
    let next : id.index ≡ suc (index_in cut id.creator) = run-head cut id ids run in
    let above : index_in gc id.creator ≤ index_in cut id.creator = up id.creator in
    let parts = and_parts (nat_le id.index (index_in h.queue.red_cut id.creator)) (are_within h.queue.red_cut ids) known in
    let here : has_name (names_of h.queue.reds) id ≡ true =
    run-names gc (names_of h.queue.reds) id (rising-green start h all is) is.contiguous.reds
    ∙ and_from (nat_lt (index_in gc id.creator) id.index) (nat_le id.index (index_in (cut_behind gc (names_of h.queue.reds)) id.creator))
    (lt-ltb (index_in gc id.creator) id.index (omega arith)) (ap (λ c. nat_le id.index (index_in c id.creator)) (sym is.made_of.red_cut) ∙ parts.0) in
    and_from (has_name (names_of h.queue.reds) id) (are_red h.queue ids) here
    (yellow-red start h all is (raise cut id) ids (rising-raise cut id rising)
    (λ p. (let one : index_in gc p ≤ index_in cut p = up p in let more : index_in cut p ≤ index_in (raise cut id) p = behind-rises cut (id ∷ []) p rising in omega arith))
    (run-rest cut id ids run) parts.1)

-- the yellow actions are those of the yellow names
pub yellow-named : (start : List Weighted) (h : Held) (all : List Action) → IsOneself start h all → names_of (actions_named h.queue h.queue.yellow) ≡ h.queue.yellow
yellow-named start h all is =
    all-named h.queue h.queue.yellow
    (yellow-red start h all is h.queue.green_cut h.queue.yellow (rising-green start h all is) (λ p. omega arith) is.yellow_closed.next is.yellow_closed.known)

-- and where they are valid they count
abbrev pub valid_names : Held → List ActionId
valid_names h = if h.yellow_valid then h.queue.yellow else []

pub valid-named : (start : List Weighted) (h : Held) (all : List Action) → IsOneself start h all → names_of (valid_yellow h) ≡ valid_names h
valid-named start h all is = elim (cases_Bool h.yellow_valid) [
  | inl valid ↦ rw valid (yellow-named start h all is)
  | inr none ↦ rw none refl
]

pub valid-run : (start : List Weighted) (h : Held) (all : List Action) → IsOneself start h all → run_on h.queue.green_cut (valid_names h) ≡ true
valid-run start h all is = elim (cases_Bool h.yellow_valid) [ inl valid ↦ rw valid is.yellow_closed.next | inr none ↦ rw none refl ]

pub valid-known : (start : List Weighted) (h : Held) (all : List Action) → IsOneself start h all → are_within h.queue.red_cut (valid_names h) ≡ true
valid-known start h all is = elim (cases_Bool h.yellow_valid) [ inl valid ↦ rw valid is.yellow_closed.known | inr none ↦ rw none refl ]

-- all that an installation makes green, in order: the valid yellow actions, and then the other reds by name
abbrev pub installed_by : Held → List Action
installed_by h = valid_yellow h ++ reds_but (valid_names h) h.queue.reds

pub install-all : (start : List Weighted) (all : List Action) (t : Turn) → IsOneself start t.replica.held all →
    AllGreen start t.replica.held (reds_green (yellow_green t)).replica.held all (installed_by t.replica.held)
install-all start all t is =
    let h = t.replica.held in
    let named = valid-named start h all is in
    let first = green-run start all t (valid_yellow h) is (ap (run_on h.queue.green_cut) named ∙ valid-run start h all is)
    (ap (are_within h.queue.red_cut) named ∙ valid-known start h all is) in
    let u = yellow_green t in
    let second = reds-green start (all ++ valid_yellow h) u first.is in
    let reds : u.replica.held.queue.reds ≡ reds_but (valid_names h) h.queue.reds = first.reds ∙ ap (λ ids. reds_but ids h.queue.reds) named in
    let done = (reds_green u).replica.held in
    record {
      kept = second.kept ∙ ap₂ (λ xs ys. xs ++ ys) first.kept reds ∙ append_assoc h.queue.greens (valid_yellow h) (reds_but (valid_names h) h.queue.reds);
      is = subst (IsOneself start done) (ap (λ xs. (all ++ valid_yellow h) ++ xs) reds ∙ append_assoc all (valid_yellow h) (reds_but (valid_names h) h.queue.reds)) second.is;
      green_cut = second.green_cut ∙ first.red_cut;
      red_cut = second.red_cut ∙ first.red_cut;
      reds = second.reds;
    }
