-- What a replica holds is made of its greens, contiguous and yellow-closed, behind each mark.
use Rattle.std.proofs.Common.{◌≡◌, ℕ, zero, suc, ◌+◌, ◌≤◌, List, [], ◌∷◌, ◌++◌, length, drop, Bool, true, not, filter, refl, sym, ap, ap₂, ◌∙◌, subst, arith, inl, inr, nat_le, leb-true, length-append}
use Rattle.std.specs.List.{list_all}
use Rattle.std.proofs.lemmas.Bool.{cases_Bool, le-leb, and_parts, and_from, cond-true, cond-false}
use Rattle.std.proofs.lemmas.List.{drop-append-le}
use Rattle.std.proofs.lemmas.List.Sums.{fold_push}
use Rattle.cg_base.specs.declared.action_id.ActionId.{ActionId}
use Rattle.cg_base.specs.declared.weighted.Weighted.{Weighted}
use Rattle.cg_base.specs.Ids.{same_id}
use Rattle.cg_base.specs.Cuts.{index_in, raise}
use Rattle.cg_action.specs.declared.action.Action.{Action}
use Rattle.cg_db.specs.Apply.{apply}
use Rattle.cg_members.specs.Servers.{after_green}
use Rattle.cg_members.specs.MemberLaws.{members_of-more}
use Rattle.cg_queue.specs.Queue.{names_of, green_count, placed_red}
use Rattle.cg_client.specs.Replica.{Held}
use Rattle.cg_client.specs.Marks.{after_first, with_green}
use Rattle.cg_model.specs.FactsReplica.{IsMadeOf, IsContiguous, IsYellowClosed}
use Rattle.cg_disk_records.specs.Holds.{run_on, cut_behind, ascend, Rising}
use Rattle.cg_disk_records.specs.RunLaws.{run_on-next, cut_behind-append}
use Rattle.cg_disk_records.specs.CutRaiseLaws.{rising-behind, behind-rises, index-rises}
use Rattle.cg_disk_records.specs.RunMarkLaws.{without, taken-out, run-inserted, behind-inserted, ascend-inserted, ascend-filter, names-new}
use Rattle.cg_disk_records.specs.HeldLaws.{names-with_red, names-without, names-behind, are-after, own-after}

-- the facts of one replica by itself
pub record IsOneself (start : List Weighted) (h : Held) (all : List Action) : Type 0 where
  pub made_of : IsMadeOf start h all
  pub contiguous : IsContiguous h all
  pub yellow_closed : IsYellowClosed h

-- ---- lists of names

-- ---- own actions

-- ---- yellow names

abbrev pub are_within : List ActionId → List ActionId → Bool
are_within red ids = list_all (λ id. nat_le id.index (index_in red id.creator)) ids

pub within-rises : (red more ids : List ActionId) → ((p : ℕ) → index_in red p ≤ index_in more p) → are_within red ids ≡ true → are_within more ids ≡ true
within-rises red more [] rise known = refl
within-rises red more (id ∷ ids) rise known =
    let parts = and_parts (nat_le id.index (index_in red id.creator)) (are_within red ids) known in
    let below : id.index ≤ index_in red id.creator = leb-true id.index (index_in red id.creator) parts.0 in
    let up : index_in red id.creator ≤ index_in more id.creator = rise id.creator in
    and_from (nat_le id.index (index_in more id.creator)) (are_within more ids) (le-leb id.index (index_in more id.creator) (omega arith)) (within-rises red more ids rise parts.1)

pub within-filter : (red : List ActionId) (p : ActionId → Bool) (ids : List ActionId) → are_within red ids ≡ true → are_within red (filter p ids) ≡ true
within-filter red p [] known = refl
within-filter red p (id ∷ ids) known =
    let parts = and_parts (nat_le id.index (index_in red id.creator)) (are_within red ids) known in
    elim (cases_Bool (p id)) [
      | inl keeps ↦ ap (are_within red) (cond-true (p id) (id ∷ filter p ids) (filter p ids) keeps)
          ∙ and_from (nat_le id.index (index_in red id.creator)) (are_within red (filter p ids)) parts.0 (within-filter red p ids parts.1)
      | inr drops ↦ ap (are_within red) (cond-false (p id) (id ∷ filter p ids) (filter p ids) drops) ∙ within-filter red p ids parts.1
    ]

-- ---- one replica

module _ (start : List Weighted) (h : Held) (all : List Action) (is : IsOneself start h all) where
  pub rising-green : Rising 0 h.queue.green_cut
  rising-green = subst (Rising 0) (sym is.made_of.green_cut) (rising-behind [] (names_of all) tt)

  pub rising-red : Rising 0 h.queue.red_cut
  rising-red = subst (Rising 0) (sym is.made_of.red_cut) (rising-behind h.queue.green_cut (names_of h.queue.reds) rising-green)

  -- what is held behind an action that becomes red
  abbrev with_red_mark : Action → Held
  with_red_mark a = record h { queue = placed_red h.queue a; own = after_first h.own a.id }

  -- an action becomes red that is the next of its creator
  pub red-oneself : (a : Action) → a.id.index ≡ suc (index_in h.queue.red_cut a.id.creator) → IsOneself start (with_red_mark a) all
  red-oneself a next =
      let gc = h.queue.green_cut in
      let reds = names_of h.queue.reds in
      let last : a.id.index ≡ suc (index_in (cut_behind gc reds) a.id.creator) = next ∙ ap (λ c. suc (index_in c a.id.creator)) is.made_of.red_cut in
      let named = names-with_red h.queue.reds a in
      record {
        made_of = record {
          white = is.made_of.white;
          kept = is.made_of.kept;
          green_cut = is.made_of.green_cut;
          red_cut = ap (λ c. raise c a.id) is.made_of.red_cut ∙ sym (ap (cut_behind gc) named ∙ behind-inserted gc reds a.id);
          db = is.made_of.db;
          members = is.made_of.members;
        };
        contiguous = record {
          greens = is.contiguous.greens;
          reds = ap (run_on gc) named ∙ run-inserted gc reds a.id rising-green is.contiguous.reds is.contiguous.by_name last;
          by_name = ap ascend named ∙ ascend-inserted reds a.id (names-new gc reds a.id rising-green is.contiguous.reds last) is.contiguous.by_name;
          own = own-after h.id h.queue.red_cut h.own a.id rising-red is.contiguous.own is.contiguous.mine (omega arith);
          mine = are-after h.id h.own a.id is.contiguous.mine;
        };
        yellow_closed = record {
          next = is.yellow_closed.next;
          known = within-rises h.queue.red_cut (raise h.queue.red_cut a.id) h.queue.yellow (index-rises h.queue.red_cut a.id rising-red) is.yellow_closed.known;
        };
      }

  pub counted : green_count h.queue ≡ length all
  counted = ap (λ xs. h.queue.white + length xs) is.made_of.kept ∙ dropped h.queue.white all is.made_of.white
    where
      dropped : (n : ℕ) (xs : List Action) → n ≤ length xs → n + length (drop n xs) ≡ length xs
      dropped zero xs le = omega arith
      dropped (suc n) [] le = absurd (omega arith)
      dropped (suc n) (x ∷ xs) le = let rest = dropped n xs (omega arith) in omega arith

  -- an action becomes green that is the next green one of its creator
  pub green-oneself : (a : Action) → a.id.index ≡ suc (index_in h.queue.green_cut a.id.creator) → IsOneself start (with_green h a) (all ++ a ∷ [])
  green-oneself a next =
      let gc = h.queue.green_cut in
      let reds = names_of h.queue.reds in
      let out = taken-out gc reds a.id rising-green next is.contiguous.reds in
      let named = names-without h.queue.reds a.id in
      let up : index_in gc a.id.creator ≤ index_in h.queue.red_cut a.id.creator = green-below a.id.creator in
      record {
        made_of = record {
          white = let more = length-append all (a ∷ []) in let le = is.made_of.white in omega arith;
          kept = ap (λ xs. xs ++ a ∷ []) is.made_of.kept ∙ sym (drop-append-le h.queue.white all (a ∷ []) is.made_of.white);
          green_cut = ap (λ c. raise c a.id) is.made_of.green_cut ∙ sym (ap (cut_behind []) (names-behind all a) ∙ cut_behind-append [] (names_of all) (a.id ∷ []));
          red_cut = ap (λ c. raise c a.id) is.made_of.red_cut ∙ sym (ap (cut_behind (raise gc a.id)) named ∙ out.cut_behind);
          db = ap (λ db. (apply db a).db) is.made_of.db ∙ sym (fold_push (λ db action. (apply db action).db) [] all a);
          members = ap₂ (λ m n. after_green m (suc n) a) is.made_of.members counted ∙ sym (members_of-more start all a);
        };
        contiguous = record {
          greens = ap (run_on []) (names-behind all a)
              ∙ run_on-next [] (names_of all) a.id is.contiguous.greens (next ∙ ap (λ c. suc (index_in c a.id.creator)) is.made_of.green_cut);
          reds = ap (run_on (raise gc a.id)) named ∙ out.run;
          by_name = ap ascend named ∙ ascend-filter (λ x. not (same_id x a.id)) reds is.contiguous.by_name;
          own = own-after h.id h.queue.red_cut h.own a.id rising-red is.contiguous.own is.contiguous.mine (omega arith);
          mine = are-after h.id h.own a.id is.contiguous.mine;
        };
        yellow_closed = record {
          next = (taken-out gc h.queue.yellow a.id rising-green next is.yellow_closed.next).run;
          known = within-rises h.queue.red_cut (raise h.queue.red_cut a.id) (without a.id h.queue.yellow) (index-rises h.queue.red_cut a.id rising-red)
              (within-filter h.queue.red_cut (λ x. not (same_id x a.id)) h.queue.yellow is.yellow_closed.known);
        };
      }
    where
      green-below : (p : ℕ) → index_in h.queue.green_cut p ≤ index_in h.queue.red_cut p
      green-below p =
          subst (λ c. index_in h.queue.green_cut p ≤ index_in c p) (sym is.made_of.red_cut)
          (behind-rises h.queue.green_cut (names_of h.queue.reds) p rising-green)
