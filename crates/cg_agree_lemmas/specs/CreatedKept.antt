-- What a replica has created stays the same through all that is handed to it: an own action that becomes known is waited for no more.
use Rattle.std.proofs.Common.{◌≡◌, ℕ, suc, ◌-◌, ◌≤◌, max, Bool, true, false, List, [], ◌∷◌, drop, length, fold, Option, refl, sym, ap, ap₂, ◌∙◌, subst, arith, inl, inr}
use Rattle.std.proofs.lemmas.Bool.{cases_eq, cases_order}
use Rattle.cg_base.specs.EachLaws.{Each-all}
use Rattle.cg_base.specs.declared.action_id.ActionId.{ActionId}
use Rattle.cg_base.specs.declared.weighted.Weighted.{Weighted}
use Rattle.cg_base.specs.Cuts.{index_in, raise}
use Rattle.cg_action.specs.declared.action.Action.{Action}
use Rattle.cg_action.specs.declared.action.Kind.{Kind}
use Rattle.cg_queue.specs.Queue.{names_of, Marks, placed_red}
use Rattle.cg_queue.specs.declared.mark.Mark.TheVariants.{Placed}
use Rattle.cg_queue.specs.MarkLaws.{red-placed}
use Rattle.cg_records.specs.declared.primary.Primary.{Primary}
use Rattle.cg_records.specs.declared.vulnerable.Vulnerable.{Vulnerable}
use Rattle.cg_client.specs.Replica.{Held, last_index, created}
use Rattle.cg_client.specs.Turn.{Turn}
use Rattle.cg_client.specs.Marks.{is_unmade, after_first, marked, with_green, place_green}
use Rattle.cg_client.specs.Summary.{redden, forget_own, own_to_red}
use Rattle.cg_disk_records.specs.Holds.{run_on, cut_behind, Rising}
use Rattle.cg_disk_records.specs.CutRaiseLaws.{index-same, index-other, index-rises, rising-raise, rising-behind, behind-rises, raise-below}
use Rattle.cg_disk_records.specs.RunMarkLaws.{run-head, run-rest}
use Rattle.cg_agree_lemmas.specs.HeldMarks.{IsOneself, rising-green, rising-red}
use Rattle.cg_disk_records.specs.HeldLaws.{are_of, are-after, own-after, created-behind}
use Rattle.cg_agree_lemmas.specs.DiskAhead.{OwnRuns, LeftOwn, left-own, made-by}
use Rattle.cg_agree_lemmas.specs.TurnRows.{IsRule}
use Rattle.cg_disk_records.specs.HoldsMarkLaws.{own-same}

-- so much was created as before, and nothing is made
pub record HasCreated (old h : Held) : Type 0 where
  pub id : h.id ≡ old.id
  pub created : created h ≡ created old
  pub own : OwnRuns h
  pub green : Rising 0 h.queue.green_cut
  pub red : (p : ℕ) → index_in old.queue.red_cut p ≤ index_in h.queue.red_cut p
  pub below : (p : ℕ) → index_in h.queue.green_cut p ≤ index_in h.queue.red_cut p

pub record StaysCreated (old : Held) (t : Turn) : Type 0 where
  pub held : HasCreated old t.replica.held
  pub made : t.made ≡ []

-- ---- marks

no-less : (n : ℕ) → n - n ≡ 0
no-less n = omega arith

left-of : (h : Held) (a : Action) → a.id.index ≡ suc (index_in h.queue.red_cut a.id.creator) → is_unmade h a ≡ false → OwnRuns h →
    LeftOwn h.own h.queue.red_cut h.id h.own (after_first h.own a.id) a.id
left-of h a next made runs =
    left-own h.own h.queue.red_cut h.id h.own a.id runs.rising runs.run runs.mine next (made-by h a made)
    (sym (ap (λ n. drop n h.own) (no-less (length h.own))), (let same : length h.own ≤ length h.own = omega arith in same))

own-behind : (h : Held) (a : Action) → a.id.index ≤ suc (index_in h.queue.red_cut a.id.creator) → OwnRuns h →
    (let new = record h { queue = (let q = h.queue in record q { red_cut = raise q.red_cut a.id }); own = after_first h.own a.id } in OwnRuns new)
own-behind h a near runs = record {
  rising = rising-raise h.queue.red_cut a.id runs.rising;
  run = own-after h.id h.queue.red_cut h.own a.id runs.rising runs.run runs.mine near;
  mine = are-after h.id h.own a.id runs.mine;
}

known-created : (old h : Held) (a : Action) → a.id.index ≡ suc (index_in h.queue.red_cut a.id.creator) → is_unmade h a ≡ false → HasCreated old h →
    HasCreated old (record h { queue = placed_red h.queue a; own = after_first h.own a.id })
known-created old h a next made is =
    let left = left-of h a next made is.own in
    let runs = own-behind h a (omega arith) is.own in
    record {
      id = is.id;
      created = left.made ∙ is.created;
      own = record { rising = runs.rising; run = runs.run; mine = runs.mine };
      green = is.green;
      red = λ p. (let up = index-rises h.queue.red_cut a.id is.own.rising p in let low = is.red p in omega arith);
      below = λ p. (let up = index-rises h.queue.red_cut a.id is.own.rising p in let low = is.below p in omega arith);
    }

green-created : (old h : Held) (a : Action) → a.id.index ≡ suc (index_in h.queue.green_cut a.id.creator) → is_unmade h a ≡ false → HasCreated old h → HasCreated old (with_green h a)
green-created old h a next made is =
    let green = index_in h.queue.green_cut a.id.creator in
    let red = index_in h.queue.red_cut a.id.creator in
    let low : green ≤ red = is.below a.id.creator in
    let runs = own-behind h a (omega arith) is.own in
    record {
      id = is.id;
      created = same ∙ is.created;
      own = record { rising = runs.rising; run = runs.run; mine = runs.mine };
      green = rising-raise h.queue.green_cut a.id is.green;
      red = λ p. (let up = index-rises h.queue.red_cut a.id is.own.rising p in let low = is.red p in omega arith);
      below = both-rise;
    } where
      same : max (index_in (raise h.queue.red_cut a.id) h.id) (last_index (after_first h.own a.id)) ≡ created h
      same = elim (cases_order a.id.index (suc (index_in h.queue.red_cut a.id.creator))) [
        | inl far ↦ (left-of h a far made is.own).made
        | inr apart ↦ elim apart [
          | inl known ↦
              let le : a.id.index ≤ index_in h.queue.red_cut a.id.creator = omega arith in
              ap₂ (λ cut own. max (index_in cut h.id) (last_index own)) (raise-below h.queue.red_cut a.id is.own.rising le) (own-same h.queue.red_cut h.own a.id is.own.run le)
          | inr past ↦ absurd (let low = is.below a.id.creator in omega arith)
        ]
      ]

      both-rise : (p : ℕ) → index_in (raise h.queue.green_cut a.id) p ≤ index_in (raise h.queue.red_cut a.id) p
      both-rise p = elim (cases_eq a.id.creator p) [
        | inl here ↦
            let g = index-same h.queue.green_cut a.id is.green p here in
            let r = index-same h.queue.red_cut a.id is.own.rising p here in
            let low = is.below p in
            omega arith
        | inr other ↦
            let g = index-other h.queue.green_cut a.id is.green p other in
            let r = index-other h.queue.red_cut a.id is.own.rising p other in
            let low = is.below p in
            omega arith
      ]

-- ---- own actions

record AllKnown (old new : Turn) (list : List Action) : Type 0 where
  pub id : new.replica.held.id ≡ old.replica.held.id
  pub own : new.replica.held.own ≡ []
  pub red_cut : new.replica.held.queue.red_cut ≡ cut_behind old.replica.held.queue.red_cut (names_of list)
  pub green_cut : new.replica.held.queue.green_cut ≡ old.replica.held.queue.green_cut
  pub made : new.made ≡ old.made

reddens-all : (t : Turn) (list : List Action) → t.replica.held.own ≡ [] → run_on t.replica.held.queue.red_cut (names_of list) ≡ true → AllKnown t (fold redden t list) list
reddens-all t [] none run = record { id = refl; own = none; red_cut = refl; green_cut = refl; made = refl }
reddens-all t (a ∷ list) none run =
    let q = t.replica.held.queue in
    let u = redden t a in
    let placed : u ≡ marked t a (Marks Placed (placed_red q a)) = ap (marked t a) (red-placed q a (run-head q.red_cut a.id (names_of list) run)) in
    let own : u.replica.held.own ≡ [] = ap (λ (v : Turn). v.replica.held.own) placed ∙ ap (λ o. after_first o a.id) none in
    let cut : u.replica.held.queue.red_cut ≡ raise q.red_cut a.id = ap (λ (v : Turn). v.replica.held.queue.red_cut) placed in
    let rest = reddens-all u list own (ap (λ c. run_on c (names_of list)) cut ∙ run-rest q.red_cut a.id (names_of list) run) in
    record {
      id = rest.id ∙ ap (λ (v : Turn). v.replica.held.id) placed;
      own = rest.own;
      red_cut = rest.red_cut ∙ ap (λ c. cut_behind c (names_of list)) cut;
      green_cut = rest.green_cut ∙ ap (λ (v : Turn). v.replica.held.queue.green_cut) placed;
      made = rest.made ∙ ap (λ (v : Turn). v.made) placed;
    }

own-created : (old : Held) (t : Turn) → StaysCreated old t → StaysCreated old (own_to_red t)
unfolding own_to_red
own-created old t p =
    let h = t.replica.held in
    let is = p.held in
    let all = reddens-all (forget_own t) h.own refl is.own.run in
    let new = (fold redden (forget_own t) h.own).replica.held in
    let behind = created-behind h.queue.red_cut h.id h.own is.own.rising is.own.run is.own.mine in
    let reached : index_in new.queue.red_cut new.id ≡ max (index_in h.queue.red_cut h.id) (last_index h.own) = ap₂ index_in all.red_cut all.id ∙ behind in
    let most : max (index_in new.queue.red_cut new.id) 0 ≡ index_in new.queue.red_cut new.id = omega arith in
    record {
      held = record {
        id = all.id ∙ is.id;
        created = ap (λ own. max (index_in new.queue.red_cut new.id) (last_index own)) all.own ∙ most ∙ reached ∙ is.created;
        own = record {
          rising = subst (Rising 0) (sym all.red_cut) (rising-behind h.queue.red_cut (names_of h.own) is.own.rising);
          run = ap (λ own. run_on new.queue.red_cut (names_of own)) all.own;
          mine = ap (are_of new.id) all.own;
        };
        green = subst (Rising 0) (sym all.green_cut) is.green;
        red = λ q. (
            let up = behind-rises h.queue.red_cut (names_of h.own) q is.own.rising in
            let low = is.red q in
            let r : index_in new.queue.red_cut q ≡ index_in (cut_behind h.queue.red_cut (names_of h.own)) q = ap (λ c. index_in c q) all.red_cut in
            omega arith
            );
        below = λ q. (
            let up = behind-rises h.queue.red_cut (names_of h.own) q is.own.rising in
            let low = is.below q in
            let g : index_in new.queue.green_cut q ≡ index_in h.queue.green_cut q = ap (λ c. index_in c q) all.green_cut in
            let r : index_in new.queue.red_cut q ≡ index_in (cut_behind h.queue.red_cut (names_of h.own)) q = ap (λ c. index_in c q) all.red_cut in
            omega arith
            );
      };
      made = all.made ∙ p.made;
    }

-- ---- each change

pub created-rule : (old : Held) → IsRule (StaysCreated old) (λ a. Unit {0})
unfolding place_green
created-rule old = record {
  greens = λ t p. Each-all (λ (a : Action). Unit {0}) (λ a. tt) t.replica.held.queue.greens;
  reds = λ t p. Each-all (λ (a : Action). Unit {0}) (λ a. tt) t.replica.held.queue.reds;
  goes = λ t state apart p. record { held = p.held; made = p.made };
  leaves = λ t p. record { held = again p.held t.replica.held.queue.yellow t.replica.held.yellow_valid t.replica.held.prim t.replica.held.attempt_index t.replica.held.vulnerable []; made = p.made };
  says = λ t m none p. record { held = p.held; made = p.made };
  part = λ t part p. record { held = p.held; made = p.made };
  values = λ t yellow valid prim index v p. record { held = again p.held yellow valid prim index v t.replica.held.buffered; made = p.made };
  known = λ t a fine next made p. record { held = known-created old t.replica.held a next made p.held; made = p.made };
  green = λ t a fine next made p. record { held = green-created old t.replica.held a next made p.held; made = p.made };
  own_red = λ t p. own-created old t p;
} where
  again : {h : Held} → HasCreated old h → (yellow : List ActionId) (valid : Bool) (prim : Primary) (index : ℕ) (v : Option Vulnerable) (buffered : List Kind) →
      (let q = h.queue in HasCreated old (record h { queue = record q { yellow = yellow }; yellow_valid = valid; prim = prim; attempt_index = index; vulnerable = v; buffered = buffered }))
  again is yellow valid prim index v buffered = record {
    id = is.id;
    created = is.created;
    own = record { rising = is.own.rising; run = is.own.run; mine = is.own.mine };
    green = is.green;
    red = is.red;
    below = is.below;
  }

-- as a turn begins
pub created-first : (start : List Weighted) (h : Held) (all : List Action) → IsOneself start h all → HasCreated h h
created-first start h all is = record {
  id = refl;
  created = refl;
  own = record { rising = rising-red start h all is; run = is.contiguous.own; mine = is.contiguous.mine };
  green = rising-green start h all is;
  red = λ q. omega arith;
  below = λ q. subst (λ cut. index_in h.queue.green_cut q ≤ index_in cut q) (sym is.made_of.red_cut) (behind-rises h.queue.green_cut (names_of h.queue.reds) q (rising-green start h all is));
}
