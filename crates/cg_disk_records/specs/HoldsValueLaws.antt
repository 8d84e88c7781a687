-- What holds of what a replica holds, where other things change than its actions: values, own actions, the white count.
use Rattle.std.proofs.Common.{◌≡◌, ℕ, zero, suc, ◌+◌, ◌-◌, ◌≤◌, List, [], ◌∷◌, ◌++◌, length, drop, Bool, true, false, refl, sym, ap, ◌∙◌, subst, arith, inl, inr, nat_lt, nat_le}
use Rattle.std.specs.Prelude.{◌==◌, Option}
use Rattle.std.specs.Option.{unwrap_or}
use Rattle.std.specs.List.{list_all}
use Rattle.std.proofs.lemmas.Bool.{cases_Bool, eq-eqb, le-leb, and_parts, and_from}
use Rattle.cg_base.specs.declared.action_id.ActionId.{ActionId}
use Rattle.cg_base.specs.declared.weighted.Weighted.{Weighted}
use Rattle.cg_base.specs.Ids.{has_name}
use Rattle.cg_base.specs.Cuts.{index_in}
use Rattle.cg_action.specs.declared.action.Action.{Action}
use Rattle.cg_action.specs.declared.action.Kind.{Kind}
use Rattle.cg_members.specs.Servers.{white_line}
use Rattle.cg_members.specs.Laws.{AreApart}
use Rattle.cg_queue.specs.Distinct.{is_distinct}
use Rattle.cg_queue.specs.DistinctLaws.{distinct-behind}
use Rattle.cg_queue.specs.Queue.{QueueView, names_of, green_count, with_yellow}
use Rattle.cg_records.specs.declared.primary.Primary.{Primary}
use Rattle.cg_records.specs.declared.vulnerable.Vulnerable.{Vulnerable}
use Rattle.cg_client.specs.Replica.{Held, fresh_held, created}
use Rattle.cg_client.specs.Whitening.{white_at}
use Rattle.cg_client.specs.Calls.{IsLineGreen}
use Rattle.cg_disk_records.specs.Stored.{stored_of, whiten}
use Rattle.cg_disk_records.specs.Following.{are_yellow}
use Rattle.cg_disk_records.specs.Agreeing.{indexes_of}
use Rattle.cg_disk_records.specs.Holds.{run_on, cut_behind, CountsTo, Holds}
use Rattle.cg_disk_records.specs.RunLaws.{run_on-next}
use Rattle.cg_disk_records.specs.RunMarkLaws.{run-names}
use Rattle.cg_members.specs.MemberLaws.{AreApart-starting}
use Rattle.cg_disk_records.specs.HeldLaws.{are_of, names-behind, created-behind, line-below}
use Rattle.cg_disk_records.specs.HoldsMarkLaws.{are_red, rising-red}
use Rattle.cg_base.specs.ListLaws.{length-dropped}

-- what is held with other values
abbrev pub with_values_of : Held → List ActionId → Bool → Primary → ℕ → Option Vulnerable → List Kind → Held
with_values_of h yellow valid prim index v buffered =
    let q = h.queue in
    record h {
      queue = record q { yellow = yellow };
      yellow_valid = valid;
      prim = prim;
      attempt_index = index;
      vulnerable = v;
      buffered = buffered;
    }

pub holds-values : (h : Held) (yellow : List ActionId) (valid : Bool) (prim : Primary) (index : ℕ) (v : Option
    Vulnerable) (buffered : List Kind) →
    are_yellow h.queue yellow ≡ true → Holds h → Holds (with_values_of h yellow valid prim index v buffered)
holds-values h yellow valid prim index v buffered red is = record {
  rising = is.rising;
  greens = is.greens;
  count = is.count;
  red_cut = is.red_cut;
  reds = is.reds;
  by_name = is.by_name;
  own = is.own;
  mine = is.mine;
  yellow = red;
  members = is.members;
}

-- ---- yellow names

all-behind : (p : ActionId → Bool) (ids : List ActionId) (id : ActionId) → list_all p ids ≡ true → p id ≡ true →
    list_all p (ids ++ id ∷ []) ≡ true
all-behind p [] id every last = and_from (p id) true last refl
all-behind p (x ∷ ids) id every last = let parts = and_parts (p x) (list_all p ids) every in
    and_from (p x) (list_all p (ids ++ id ∷ [])) parts.0 (all-behind p ids id parts.1 last)

pub yellow-behind : (q : QueueView) (ids : List ActionId) (id : ActionId) → are_yellow q ids ≡ true →
    has_name (names_of q.reds) id ≡ true → has_name ids id ≡ false → are_yellow q (ids ++ id ∷ []) ≡ true
yellow-behind q ids id yellow red new =
    let parts = and_parts (is_distinct ids) (are_red (names_of q.reds) ids) yellow in
    and_from (is_distinct (ids ++ id ∷ [])) (are_red (names_of q.reds) (ids ++ id ∷ []))
    (distinct-behind ids id parts.0 new)
    (all-behind (has_name (names_of q.reds)) ids id parts.1 red)

-- a name that is known comes to the yellow ones
pub record Yellowed (q : QueueView) (id : ActionId) : Type 0 where
  pub list : List ActionId
  pub is : with_yellow q id ≡ record q { yellow = list }
  pub yellow : are_yellow q list ≡ true

pub yellowed : (h : Held) (id : ActionId) → Holds h →
    id.index ≤ index_in h.queue.red_cut id.creator → Yellowed h.queue id
yellowed h id is le =
    let gc = h.queue.green_cut in
    elim (cases_Bool (nat_lt (index_in gc id.creator) id.index)) [
      | inl above ↦ elim (cases_Bool (has_name h.queue.yellow id)) [
        | inl there ↦ record { list = h.queue.yellow; is = rw (above, there) refl; yellow = is.yellow }
        | inr new ↦ record {
          list = h.queue.yellow ++ id ∷ [];
          is = rw (above, new) refl;
          yellow = yellow-behind h.queue h.queue.yellow id is.yellow (red above) new;
        }
      ]
      | inr below ↦ record { list = h.queue.yellow; is = rw below refl; yellow = is.yellow }
    ]
  where
    red : nat_lt (index_in h.queue.green_cut id.creator) id.index ≡ true → has_name (names_of h.queue.reds) id ≡ true
    red above =
        run-names h.queue.green_cut (names_of h.queue.reds) id is.rising is.reds
        ∙ and_from (nat_lt (index_in h.queue.green_cut id.creator) id.index) (nat_le
        id.index (index_in (cut_behind h.queue.green_cut (names_of h.queue.reds)) id.creator))
        above (ap (λ c. nat_le id.index (index_in c id.creator)) (sym is.red_cut)
        ∙ le-leb id.index (index_in h.queue.red_cut id.creator) le)

-- ---- own actions

pub mine-behind : (me : ℕ) (own : List Action) (a : Action) → are_of me own ≡ true → a.id.creator ≡ me →
    are_of me (own ++ a ∷ []) ≡ true
mine-behind me [] a mine of_me = and_from (a.id.creator == me) true (eq-eqb a.id.creator me of_me) refl
mine-behind me (b ∷ own) a mine of_me =
    let parts = and_parts (b.id.creator == me) (are_of me own) mine in
    and_from (b.id.creator == me) (are_of me (own ++ a ∷ [])) parts.0 (mine-behind me own a parts.1 of_me)

-- one more own action
abbrev pub with_made : Held → Action → List ActionId → Held
with_made h a owed = record h { own = h.own ++ a ∷ []; owed = owed }

pub holds-made : (h : Held) (a : Action) (owed : List ActionId) → a.id.creator ≡ h.id → a.id.index ≡ suc (created h) →
    Holds h → Holds (with_made h a owed)
holds-made h a owed mine next is =
    let behind = created-behind h.queue.red_cut h.id h.own (rising-red h is) is.own is.mine in
    let last : a.id.index ≡ suc (index_in (cut_behind h.queue.red_cut (names_of h.own)) a.id.creator) =
    next ∙ ap suc (sym behind) ∙ ap (λ p. suc (index_in (cut_behind h.queue.red_cut (names_of h.own)) p)) (sym mine) in
    record {
      rising = is.rising;
      greens = is.greens;
      count = is.count;
      red_cut = is.red_cut;
      reds = is.reds;
      by_name = is.by_name;
      own = ap (run_on h.queue.red_cut) (names-behind h.own a)
          ∙ run_on-next h.queue.red_cut (names_of h.own) a.id is.own last;
      mine = mine-behind h.id h.own a is.mine mine;
      yellow = is.yellow;
      members = is.members;
    }

-- ---- the white count

counts-drop : (n : ℕ) (xs : List Action) (p last : ℕ) → CountsTo last (indexes_of xs p) →
    CountsTo last (indexes_of (drop n xs) p)
counts-drop zero xs p last counts = counts
counts-drop (suc n) [] p last counts = tt
counts-drop (suc n) (x ∷ xs) p last counts = counts-drop n xs p last (elim (cases_Bool (x.id.creator == p)) [
  | inl here ↦ (let both : CountsTo last (x.id.index ∷ indexes_of xs p) = rw here at counts in both.2)
  | inr other ↦ (rw other at counts)
])

pub line-green : (h : Held) → Holds h → IsLineGreen h
line-green h is = line-below (green_count h.queue) h.members.servers is.members.lines

-- discarding changes no count
pub whitened-counts : (h : Held) → Holds h → green_count (whiten h).queue ≡ green_count h.queue
unfolding whiten
whitened-counts h is =
    let lines : unwrap_or (white_line h.members) 0 ≤ green_count h.queue = line-green h is in
    let enough : white_at h - h.queue.white ≤ length h.queue.greens = omega arith in
    let kept = length-dropped (white_at h - h.queue.white) h.queue.greens enough in
    omega arith

pub holds-whiten : (h : Held) → Holds h → Holds (whiten h)
unfolding whiten
holds-whiten h is =
    let lines : unwrap_or (white_line h.members) 0 ≤ green_count h.queue = line-green h is in
    let enough : white_at h - h.queue.white ≤ length h.queue.greens = omega arith in
    let kept = length-dropped (white_at h - h.queue.white) h.queue.greens enough in
    let counted : green_count h.queue ≡ white_at h + length (drop (white_at h - h.queue.white) h.queue.greens) =
    omega arith in
    record {
      rising = is.rising;
      greens = λ p. counts-drop (white_at h - h.queue.white) h.queue.greens
          p (index_in h.queue.green_cut p) (is.greens p);
      count = is.count ∙ counted;
      red_cut = is.red_cut;
      reds = is.reds;
      by_name = is.by_name;
      own = is.own;
      mine = is.mine;
      yellow = is.yellow;
      members = subst (AreApart h.members) counted is.members;
    }

-- ---- what stands on the disk

pub holds-stored : (h : Held) → Holds h → Holds (stored_of h)
holds-stored h is = record {
  rising = is.rising;
  greens = is.greens;
  count = is.count;
  red_cut = is.red_cut;
  reds = is.reds;
  by_name = is.by_name;
  own = is.own;
  mine = is.mine;
  yellow = is.yellow;
  members = is.members;
}

-- ---- a new replica

pub holds-fresh : (id : ℕ) (set : List Weighted) → Holds (fresh_held id set)
holds-fresh id set = record {
  rising = tt;
  greens = λ p. tt;
  count = refl;
  red_cut = refl;
  reds = refl;
  by_name = refl;
  own = refl;
  mine = refl;
  yellow = refl;
  members = AreApart-starting set;
}
