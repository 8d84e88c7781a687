-- One replica's facts through the parts of a turn: marks, own actions, an installation, creation.
use Rattle.std.proofs.Common.{◌≡◌, ℕ, suc, ◌+◌, ◌<◌, List, [], ◌∷◌, ◌++◌, length, cond, Bool, true, false, not, fold, refl, sym, ap, ◌∙◌, subst, arith, inl, inr, eqb-true, append-nil}
use Rattle.std.specs.Prelude.{◌==◌, Option}
use Rattle.std.proofs.lemmas.Bool.{cases_order, cases_Bool, ne_eqb, lt-leb, and_parts}
use Rattle.std.proofs.lemmas.List.{append_assoc}
use Rattle.cg_base.specs.declared.action_id.ActionId.{ActionId}
use Rattle.cg_base.specs.declared.weighted.Weighted.{Weighted}
use Rattle.cg_base.specs.Cuts.{index_in}
use Rattle.cg_action.specs.declared.action.Action.{Action}
use Rattle.cg_action.specs.declared.action.Kind.{Kind}
use Rattle.cg_queue.specs.Queue.{QueueView, Marking, Gaps, names_of, marked_red, placed_red}
use Rattle.cg_queue.specs.MarkLaws.{red-known, red-placed}
use Rattle.cg_records.specs.declared.primary.Primary.{Primary}
use Rattle.cg_records.specs.declared.vulnerable.Vulnerable.{Vulnerable}
use Rattle.cg_client.specs.Replica.{Held, Replica}
use Rattle.cg_client.specs.Turn.{Turn, with_held}
use Rattle.cg_client.specs.Marks.{is_unmade, marked, mark_red, can_be_green, place_green, mark_green, mark_green_at, after_first}
use Rattle.cg_client.specs.Requests.{next_action, create, create_kept, empty_buffer, settle, is_creating}
use Rattle.cg_client.specs.Summary.{redden, forget_own, own_to_red, tell, enter_exchange}
use Rattle.cg_client.specs.Install.{valid_yellow, yellow_green, reds_green, prim_after, install}
use Rattle.cg_disk_records.specs.Holds.{run_on}
use Rattle.cg_disk_records.specs.RunLaws.{run_on-next}
use Rattle.cg_agree_lemmas.specs.HeldMarks.{IsOneself, are_within, rising-red, red-oneself, green-oneself}
use Rattle.cg_disk_records.specs.HeldLaws.{are_of, names-behind, created-behind}
use Rattle.cg_disk_records.specs.HoldsValueLaws.{mine-behind}

-- what was held became what is held: the greens grew, and one replica's facts hold of all of them
pub record Grows (start : List Weighted) (old new : Held) (all : List Action) : Type 0 where
  pub more : List Action
  pub kept : new.queue.greens ≡ old.queue.greens ++ more
  pub is : IsOneself start new (all ++ more)

-- a part of a turn keeps them
abbrev pub Keeps : (Turn → Turn) → Type 0
Keeps f = (start : List Weighted) (all : List Action) (t : Turn) → IsOneself start t.replica.held all → Grows start t.replica.held (f t).replica.held all

pub grows-none : (start : List Weighted) (old new : Held) (all : List Action) → new.queue.greens ≡ old.queue.greens → IsOneself start new all → Grows start old new all
grows-none start old new all same is = record {
  more = [];
  kept = same ∙ sym (append-nil old.queue.greens);
  is = subst (IsOneself start new) (sym (append-nil all)) is;
}

pub grows-both : (start : List Weighted) (old mid new : Held) (all : List Action) (g : Grows start old mid all) → Grows start mid new (all ++ g.more) → Grows start old new all
grows-both start old mid new all g h = record {
  more = g.more ++ h.more;
  kept = h.kept ∙ ap (λ xs. xs ++ h.more) g.kept ∙ append_assoc old.queue.greens g.more h.more;
  is = subst (IsOneself start new) (append_assoc all g.more h.more) h.is;
}

pub keeps-none : Keeps (λ t. t)
keeps-none start all t is = grows-none start t.replica.held t.replica.held all refl is

pub keeps-both : (f g : Turn → Turn) → Keeps f → Keeps g → Keeps (λ t. g (f t))
keeps-both f g of_f of_g start all t is =
    let first = of_f start all t is in
    grows-both start t.replica.held (f t).replica.held (g (f t)).replica.held all first (of_g start (all ++ first.more) (f t) first.is)

pub keeps-choice : (test : Bool) (f g : Turn → Turn) → Keeps f → Keeps g → Keeps (λ t. cond test (f t) (g t))
keeps-choice true f g of_f of_g = of_f
keeps-choice false f g of_f of_g = of_g

pub keeps-by_replica : (f : Replica → Turn → Turn) → ((r : Replica) → Keeps (f r)) → Keeps (λ t. f t.replica t)
keeps-by_replica f each start all t = each t.replica start all t

pub keeps-fold : {A : Type 0} (step : Turn → A → Turn) (list : List A) → ((a : A) → Keeps (λ t. step t a)) → Keeps (λ t. fold step t list)
keeps-fold step [] each = keeps-none
keeps-fold step (a ∷ list) each = keeps-both (λ t. step t a) (λ t. fold step t list) (each a) (keeps-fold step list each)

-- a part that changes nothing that is held
pub keeps-held : (f : Turn → Turn) → ((t : Turn) → (f t).replica.held ≡ t.replica.held) → Keeps f
keeps-held f same start all t is = grows-none start t.replica.held (f t).replica.held all (ap (λ (h : Held). h.queue.greens) (same t)) (subst (λ h. IsOneself start h all) (sym (same t)) is)

-- ---- what the facts don't read, and the yellow and own lists

pub oneself-with : (start : List Weighted) (h : Held) (all : List Action) → IsOneself start h all →
    (yellow : List ActionId) (own : List Action) (valid : Bool) (prim : Primary) (index : ℕ) (v : Option Vulnerable) (buffered : List Kind) (owed : List ActionId) →
    run_on h.queue.green_cut yellow ≡ true → are_within h.queue.red_cut yellow ≡ true →
    run_on h.queue.red_cut (names_of own) ≡ true → are_of h.id own ≡ true →
    IsOneself start (let q = h.queue in record h { queue = record q { yellow = yellow }; own = own; yellow_valid = valid; prim = prim; attempt_index = index; vulnerable = v; buffered = buffered; owed = owed }) all
oneself-with start h all is yellow own valid prim index v buffered owed next known run mine = record {
  made_of = record {
    white = is.made_of.white;
    kept = is.made_of.kept;
    green_cut = is.made_of.green_cut;
    red_cut = is.made_of.red_cut;
    db = is.made_of.db;
    members = is.made_of.members;
  };
  contiguous = record { greens = is.contiguous.greens; reds = is.contiguous.reds; by_name = is.contiguous.by_name; own = run; mine = mine };
  yellow_closed = record { next = next; known = known };
}

-- ---- marks

red-marked : (a : Action) → Keeps (λ t. marked t a (marked_red t.replica.held.queue a))
red-marked a start all t is =
    let h = t.replica.held in
    let cut = index_in h.queue.red_cut a.id.creator in
    let of_marking : (m : Marking) → Type 0 = λ m. Grows start h (marked t a m).replica.held all in
    elim (cases_order a.id.index (suc cut)) [
      | inl next ↦ subst of_marking (sym (red-placed h.queue a next))
          (grows-none start h (record h { queue = placed_red h.queue a; own = after_first h.own a.id }) all refl (red-oneself start h all is a next))
      | inr apart ↦ elim apart [
        | inl lt ↦ subst of_marking (sym (red-known h.queue a (omega arith))) (grows-none start h h all refl is)
        | inr gt ↦ subst of_marking (sym (gap h.queue gt)) (grows-none start h h all refl is)
      ]
    ]
  where
    gap : (q : QueueView) → suc (index_in q.red_cut a.id.creator) < a.id.index → marked_red q a ≡ Gaps (index_in q.red_cut a.id.creator)
    gap q gt = rw (lt-leb a.id.index (index_in q.red_cut a.id.creator) (omega arith), ne_eqb a.id.index (suc (index_in q.red_cut a.id.creator)) (λ e. omega arith)) refl

pub keeps-mark_red : (a : Action) → Keeps (λ t. mark_red t a)
unfolding mark_red
keeps-mark_red a =
    keeps-by_replica (λ r t. cond (is_unmade r.held a) t (marked t a (marked_red t.replica.held.queue a)))
    (λ r. keeps-choice (is_unmade r.held a) (λ t. t) (λ t. marked t a (marked_red t.replica.held.queue a)) keeps-none (red-marked a))

pub keeps-mark_green : (a : Action) → Keeps (λ t. mark_green t a)
unfolding mark_green can_be_green place_green
keeps-mark_green a start all t is =
    let h = t.replica.held in
    elim (cases_Bool (can_be_green h a)) [
      | inl can ↦
          let next : a.id.index ≡ suc (index_in h.queue.green_cut a.id.creator) =
          eqb-true a.id.index (suc (index_in h.queue.green_cut a.id.creator))
          (and_parts (a.id.index == suc (index_in h.queue.green_cut a.id.creator)) (not (is_unmade h a)) can).0 in
          subst (λ b. Grows start h (cond b (place_green t a) t).replica.held all) (sym can)
          (record { more = a ∷ []; kept = refl; is = green-oneself start h all is a next })
      | inr cannot ↦ subst (λ b. Grows start h (cond b (place_green t a) t).replica.held all) (sym cannot) (grows-none start h h all refl is)
    ]

pub keeps-mark_green_at : (place : ℕ) (a : Action) → Keeps (λ t. mark_green_at t place a)
keeps-mark_green_at place a start all t is =
    keeps-choice (place == suc (t.replica.held.queue.white + length t.replica.held.queue.greens)) (λ u. mark_green u a) (λ u. u) (keeps-mark_green a) keeps-none start all t is

-- ---- own actions become red

pub keeps-redden : (a : Action) → Keeps (λ t. redden t a)
keeps-redden a = red-marked a

pub keeps-forget_own : Keeps forget_own
keeps-forget_own start all t is =
    let h = t.replica.held in
    grows-none start h (record h { own = [] }) all refl
    (oneself-with start h all is h.queue.yellow [] h.yellow_valid h.prim h.attempt_index h.vulnerable h.buffered h.owed is.yellow_closed.next is.yellow_closed.known refl refl)

pub keeps-own_to_red : Keeps own_to_red
unfolding own_to_red
keeps-own_to_red =
    keeps-by_replica (λ r t. fold redden (forget_own t) r.held.own)
    (λ r. keeps-both forget_own (λ t. fold redden t r.held.own) keeps-forget_own (keeps-fold redden r.held.own keeps-redden))

pub keeps-enter_exchange : (conf : ℕ) (set : List ℕ) → Keeps (λ t. enter_exchange t conf set)
unfolding enter_exchange
keeps-enter_exchange conf set =
    keeps-both own_to_red (λ t. tell t conf set) keeps-own_to_red (keeps-held (λ t. tell t conf set) (λ t. refl))

-- ---- an installation

pub keeps-install : Keeps install
unfolding install
keeps-install start all t is =
    let h = t.replica.held in
    let greens = keeps-fold mark_green (valid_yellow h) keeps-mark_green in
    let both = keeps-both yellow_green reds_green (λ s l u. keeps-fold mark_green (valid_yellow u.replica.held) keeps-mark_green s l u)
    (λ s l u. keeps-fold mark_green u.replica.held.queue.reds keeps-mark_green s l u) in
    let g = both start all t is in
    let done = (reds_green (yellow_green t)).replica.held in
    record {
      more = g.more;
      kept = g.kept;
      is = oneself-with start done (all ++ g.more) g.is [] done.own false (prim_after h h.vulnerable) 0 done.vulnerable done.buffered done.owed
          refl refl g.is.contiguous.own g.is.contiguous.mine;
    }

-- ---- creation

pub keeps-create : (kind : Kind) → Keeps (λ t. create t kind)
unfolding create
keeps-create kind start all t is =
    let h = t.replica.held in
    let a = next_action h kind in
    let behind = created-behind h.queue.red_cut h.id h.own (rising-red start h all is) is.contiguous.own is.contiguous.mine in
    grows-none start h (record h { own = h.own ++ a ∷ []; owed = h.owed ++ a.id ∷ [] }) all refl
    (oneself-with start h all is h.queue.yellow (h.own ++ a ∷ []) h.yellow_valid h.prim h.attempt_index h.vulnerable h.buffered (h.owed ++ a.id ∷ [])
    is.yellow_closed.next is.yellow_closed.known
    (ap (run_on h.queue.red_cut) (names-behind h.own a) ∙ run_on-next h.queue.red_cut (names_of h.own) a.id is.contiguous.own (ap suc (sym behind)))
    (mine-behind h.id h.own a is.contiguous.mine refl))

keeps-buffered : (list : Turn → List Kind) → Keeps (λ t. let h = t.replica.held in with_held t (record h { buffered = list t }))
keeps-buffered list start all t is =
    let h = t.replica.held in
    grows-none start h (record h { buffered = list t }) all refl
    (oneself-with start h all is h.queue.yellow h.own h.yellow_valid h.prim h.attempt_index h.vulnerable (list t) h.owed
    is.yellow_closed.next is.yellow_closed.known is.contiguous.own is.contiguous.mine)

pub keeps-create_kept : Keeps create_kept
unfolding create_kept
keeps-create_kept =
    keeps-by_replica (λ r t. fold create (empty_buffer t) r.held.buffered)
    (λ r. keeps-both empty_buffer (λ t. fold create t r.held.buffered) (keeps-buffered (λ t. [])) (keeps-fold create r.held.buffered keeps-create))

pub keeps-settle : Keeps settle
keeps-settle =
    keeps-by_replica (λ r t. cond (is_creating r.state) (create_kept t) t)
    (λ r. keeps-choice (is_creating r.state) create_kept (λ t. t) keeps-create_kept keeps-none)
