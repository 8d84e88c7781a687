-- The invariant stays when replicas leave their configuration together, and when a new one begins.
use Rattle.std.proofs.Common.{◌≡◌, ℕ, zero, suc, ◌+◌, ◌<◌, ◌≤◌, ◌⊎◌, Bool, true, false, cond, ◌&&◌, ◌||◌, not, List, [], ◌∷◌, ◌++◌, length, Option, Some, None, refl, sym, ap, ap₂, subst, ◌∙◌, arith, eq-eqb, eqb-true, inl, inr, ⊎_elim, fold, map, length-append, is_some, if◌then◌else◌}
use Rattle.std.specs.Prelude.{◌==◌}
use Rattle.std.specs.Option.{option_map_or}
use Rattle.std.proofs.lemmas.Bool.{cases_Bool, cases_eq, cond-true, cond-false, ne_eqb, eqb-false, and_from, and_left, or_left, or_right, not_from_false}
use Rattle.std.proofs.lemmas.Option.{same_Some}
use Rattle.cg_base.specs.Lists.{above_up_to, at_place}
use Rattle.cg_base.specs.Sets.{has, same_set}
use Rattle.cg_group.specs.declared.delivery.Delivery.{Delivery}
use Rattle.cg_group.specs.declared.delivery.Delivery.TheVariants.{Transitional as TransitionalIn, Regular as RegularIn}
use Rattle.cg_group.specs.declared.delivery.Handed.{Handed}
use Rattle.cg_group.specs.declared.phase.Phase.{Phase}
use Rattle.cg_group.specs.declared.phase.Phase.TheVariants.{Down, Alone, Regular, Transitional}
use Rattle.cg_group.specs.State.{Configuration, Standing, GroupState, no_configuration, standing_of, configuration, phase_of, delivered_to, unordered_of, regular_in, set_standing}
use Rattle.cg_group.specs.Ready.{all_received}
use Rattle.cg_group.specs.Events.{deliveries_at, transitional_places, furthest, handed_in_split, become_transitional, split, become_regular, merge}
use Rattle.cg_group.specs.Refusals.{not_up, not_regular, not_one_configuration, still_regular, not_together, empty_set, any_of, left_together, split_refusal, merge_refusal}
use Rattle.cg_group.specs.History.{Parting, Way, Never, Here, WentDown, WentOn, Diary, Stay, stay_in, ended, going, fresh, note, may_begin, was_there, handed_to, NamesOnce}
use Rattle.cg_group.specs.Synchrony.{Begins, EndedBefore, ordered_from}
use Rattle.cg_group.proofs.Picture.{Picture, Holds, EndsBy, conf_in, handed_parting, touched}
use Rattle.cg_group.specs.LookupLaws.{put, at-cond, same_both, put-other, put-same, standing_of-set, configurations-set_standing}
use Rattle.cg_group.proofs.PartingTogether.{parted_together}
use Rattle.cg_group.proofs.Closing.{closed}
use Rattle.cg_group.proofs.Opening.{opened}
use Rattle.cg_group.proofs.Diaries.{Booked, AreMessages-at, noted_parting, Booked-now, stay_in-now, Booked-ended, stay_in-ended, noted_begin, Booked-begun, stay_in-begun, handed_to-map}
use Rattle.cg_group.proofs.Sound.{Sound, picture, same_picture, regular_phase, ticked}
use Rattle.cg_group.proofs.Admitted.{any_none, regular_home, not_regular_now, one_configuration, same_set_refl, all_together, furthest_is}
use Rattle.cg_group.proofs.Handing.{Sends-fewer}
use Rattle.cg_base.specs.OptionLaws.{first_none}

some_member : (set : List ℕ) → empty_set set ≡ None → (p : ℕ) × (has set p ≡ true)
some_member [] e = absurd cc
some_member (p ∷ set) e = (p, or_left (p == p) (has set p) (eq-eqb p p refl))

-- an end before a call
ended_by : (time : ℕ) (w : Way) → (w ≡ Never → ⊥) → (w ≡ Here → ⊥) → EndsBy time w → EndedBefore time w
ended_by time Never a b e = a refl
ended_by time Here a b e = b refl
ended_by time (WentDown t) a b e = e
ended_by time (WentOn t set left) a b e = e

-- a phase in a configuration is regular there or apart
pub in_phase : (x : Phase) (c : ℕ) → conf_in x ≡ c → 0 < c → (x ≡ Regular c) ⊎ ((set : List ℕ) × (x ≡ Transitional c set))
in_phase Down c e pos = absurd (omega arith)
in_phase Alone c e pos = absurd (omega arith)
in_phase (Regular d) c e pos = inl (ap Regular e)
in_phase (Transitional d set) c e pos = inr (set, ap (λ z. Transitional z set) e)

-- two that parted with one set
same_parting : (x y : Phase) (c : ℕ) (set : List ℕ) → x ≡ Transitional c set → y ≡ Transitional c set → left_together x y ≡ true
same_parting x y c set e f = subst (λ z. left_together z y ≡ true) (sym e) (subst (λ z. left_together (Transitional c set) z ≡ true) (sym f)
    (and_from (c == c) (same_set set set) (eq-eqb c c refl) (same_set_refl set)))

-- a choice within a choice
twice : {X : Type 0} (b : Bool) (x y z : X) → cond b x z ≡ cond b x (cond b y z)
twice true x y z = refl
twice false x y z = refl

module _ {M : Type 0} where
  -- each member of a set is given anew, as it stands
  fold_sets : (new : GroupState M → ℕ → Standing M) → ((g : GroupState M) (q : ℕ) → (new g q).id ≡ q) →
      ((g h : GroupState M) (q : ℕ) → standing_of g q ≡ standing_of h q → new g q ≡ new h q) →
      (ps : List ℕ) → NamesOnce ps → (g : GroupState M) → (q : ℕ) →
      standing_of (fold (λ g p. set_standing g (new g p)) g ps) q ≡ cond (has ps q) (Some (new g q)) (standing_of g q)
  fold_sets new ids alike [] once g q = refl
  fold_sets new ids alike (p ∷ ps) once g q =
      let g1 = set_standing g (new g p) in
      let rest = fold_sets new ids alike ps once.1 g1 q in
      let at : standing_of g1 q ≡ put (standing_of g) p (Some (new g p)) q = standing_of-set g (new g p) q ∙ ap (λ z. put (standing_of g) z (Some (new g p)) q) (ids g p) in
      ⊎_elim
      (λ y.
      let pq : p ≡ q = eqb-true p q y in
      let out : has ps q ≡ false = subst (λ z. has ps z ≡ false) pq once.0 in
      rest ∙ cond-false (has ps q) (Some (new g1 q)) (standing_of g1 q) out ∙ at ∙ cond-true (q == p) (Some (new g p)) (standing_of g q) (eq-eqb q p (sym pq))
      ∙ ap (λ z. Some (new g z)) pq ∙ sym (cond-true (has (p ∷ ps) q) (Some (new g q)) (standing_of g q) (or_left (p == q) (has ps q) y)))
      (λ n.
      let same : standing_of g1 q ≡ standing_of g q = at ∙ cond-false (q == p) (Some (new g p)) (standing_of g q) (ne_eqb q p (λ e. eqb-false p q n (sym e))) in
      rest ∙ ap₂ (λ s o. cond (has ps q) (Some s) o) (alike g1 g q same) same
      ∙ ap (λ b. cond (b || has ps q) (Some (new g q)) (standing_of g q)) (sym n))
      (cases_Bool (p == q))

  fold_sets_confs : (new : GroupState M → ℕ → Standing M) (ps : List ℕ) (g : GroupState M) → (fold (λ g p. set_standing g (new g p)) g ps).configurations ≡ g.configurations
  fold_sets_confs new [] g = refl
  fold_sets_confs new (p ∷ ps) g = fold_sets_confs new ps (set_standing g (new g p)) ∙ configurations-set_standing g (new g p)

  conf_of : (g h : GroupState M) → g.configurations ≡ h.configurations → (c : ℕ) → configuration g c ≡ configuration h c
  unfolding configuration
  conf_of g h e c = ap (λ (cs : List (Configuration M)). option_map_or (λ (c : Configuration M). c) (at_place cs c) no_configuration) e

  -- replicas leave their configuration together
  pub split_sound : (g : GroupState M) (diary : ℕ → Diary M) (sent : ℕ → ℕ → List M) (time : ℕ) (set : List ℕ) → Sound g diary sent time → NamesOnce set → split_refusal g set ≡ None →
      (let o = split g set in Sound o.group (λ q. fold (note time []) (diary q) (handed_to q o.handed)) sent (suc time))
  unfolding split split_refusal become_transitional handed_in_split
  split_sound g diary sent time set sound once admitted =
      let a = first_none (empty_set set) (any_of (not_up g) set ∷ any_of (not_regular g) set ∷ not_one_configuration g set ∷ []) admitted in
      let b = first_none (any_of (not_up g) set) (any_of (not_regular g) set ∷ not_one_configuration g set ∷ []) a.1 in
      let c = first_none (any_of (not_regular g) set) (not_one_configuration g set ∷ []) b.1 in
      let d = first_none (not_one_configuration g set) [] c.1 in
      let member = some_member set a.0 in
      let k = regular_in (phase_of g member.0) in
      let pos : 0 < k = regular_home g member.0 (any_none (not_regular g) set c.0 member.0 member.1) in
      let homes : (q : ℕ) → has set q ≡ true → regular_in (phase_of g q) ≡ k = λ q m. one_configuration g set d.0 q member.0 m member.1 in
      let regular : (q : ℕ) → has set q ≡ true → phase_of g q ≡ Regular k = λ q m. regular_phase (phase_of g q) k (homes q m) pos in
      let P = picture g diary time in
      let C = configuration g k in
      let K = furthest g set in
      let far = furthest_is g set in
      let fits : K ≤ length C.ordered = ⊎_elim (λ z. omega arith)
      (λ w. let here = sound.holds.counted w.0 k (regular w.0 w.1) in let short = sound.holds.short w.0 k in let e = w.2 in omega arith) far.1 in
      let all : (place : ℕ) → 0 < place → place ≤ K → all_received C place ≡ true = λ place pos le. ⊎_elim (λ z. absurd (omega arith))
      (λ w. sound.holds.received w.0 k place pos (let here = sound.holds.counted w.0 k (regular w.0 w.1) in let e = w.2 in omega arith)) far.1 in
      let later = deliveries_at C (transitional_places C set K) in
      let t : Parting M = record { time = time; set = set; later = later } in
      let part : ℕ → List (Delivery M) = λ q. deliveries_at C (above_up_to (delivered_to g q) K) in
      let new : GroupState M → ℕ → Standing M = λ g p. record { id = p; phase = Transitional (regular_in (phase_of g p)) set; delivered = delivered_to g p; unordered = [] } in
      let g1 = fold (become_transitional set) g set in
      let standings : (q : ℕ) → standing_of g1 q ≡ cond (has set q) (Some (new g q)) (standing_of g q) =
      fold_sets new (λ g q. refl) (λ g h q e. ap (λ o. record { id = q; phase = Transitional (regular_in (option_map_or (λ (s : Standing M). s.phase) o Down)) set; delivered = option_map_or (λ (s : Standing M). s.delivered) o 0; unordered = [] }) e) set once g in
      let confs : g1.configurations ≡ g.configurations = fold_sets_confs new set g in
      let phases : (q : ℕ) → phase_of g1 q ≡ cond (has set q) (Transitional k set) (phase_of g q) = λ q.
      ap (λ o. option_map_or (λ (s : Standing M). s.phase) o Down) (standings q) ∙ at-cond (λ o. option_map_or (λ (s : Standing M). s.phase) o Down) (has set q) (Some (new g q)) (standing_of g q)
      ∙ ⊎_elim (λ m. cond-true (has set q) (Transitional (regular_in (phase_of g q)) set) (phase_of g q) m ∙ ap (λ z. Transitional z set) (homes q m) ∙ sym (cond-true (has set q) (Transitional k set) (phase_of g q) m))
      (λ n. cond-false (has set q) (Transitional (regular_in (phase_of g q)) set) (phase_of g q) n ∙ sym (cond-false (has set q) (Transitional k set) (phase_of g q) n)) (cases_Bool (has set q)) in
      let counts : (q : ℕ) → delivered_to g1 q ≡ delivered_to g q = λ q.
      ap (λ o. option_map_or (λ (s : Standing M). s.delivered) o 0) (standings q) ∙ at-cond (λ o. option_map_or (λ (s : Standing M). s.delivered) o 0) (has set q) (Some (new g q)) (standing_of g q)
      ∙ same_both (has set q) (delivered_to g q) in
      let handed = map (handed_in_split g set) set in
      let diary' : ℕ → Diary M = λ q. fold (note time []) (diary q) (handed_to q handed) in
      let mine : (q : ℕ) → has set q ≡ true → diary' q ≡ (let d = diary q in record d { now = handed_parting (part q) t d.now }) = λ q m.
      let d = diary q in
      let kq = homes q m in
      let in_k : d.current ≡ k = (sound.books q).is_in ∙ ap conf_in (regular q m) in
      let now_is : stay_in d k ≡ d.now = cond-true (k == d.current) d.now (d.past k) (eq-eqb k d.current (sym in_k)) in
      let none : d.now.parting ≡ None = sym (ap (λ (x : Stay M). x.parting) now_is) ∙ sound.holds.here q k (regular q m) in
      ap (fold (note time []) d) (handed_to-map (λ p. (handed_in_split g set p).list) set once q ∙ cond-true (has set q) (handed_in_split g set q).list [] m
      ∙ ap (λ z. let c = configuration g z in deliveries_at c (above_up_to (delivered_to g q) K) ++ TransitionalIn z set ∷ deliveries_at c (transitional_places c set K)) kq)
      ∙ noted_parting time [] k set (part q) later (AreMessages-at C (above_up_to (delivered_to g q) K)) (AreMessages-at C (transitional_places C set K)) d in_k pos none in
      let others : (q : ℕ) → has set q ≡ false → diary' q ≡ diary q = λ q n.
      ap (fold (note time []) (diary q)) (handed_to-map (λ p. (handed_in_split g set p).list) set once q ∙ cond-false (has set q) (handed_in_split g set q).list [] n) in
      let stays : (q c : ℕ) → stay_in (diary' q) c ≡ (if has set q && (c == k) then handed_parting (part q) t (stay_in (diary q) c) else stay_in (diary q) c) = λ q c.
      ⊎_elim
      (λ m. ap (λ d. stay_in d c) (mine q m) ∙ stay_in-now (conf_in (phase_of g q)) (diary q) (handed_parting (part q) t) (sound.books q) c
      ∙ ap (λ b. cond b (handed_parting (part q) t (stay_in (diary q) c)) (stay_in (diary q) c)) (ap (λ z. c == z) (ap conf_in (regular q m)) ∙ sym (ap (λ b. b && (c == k)) m)))
      (λ n. ap (λ d. stay_in d c) (others q n)
      ∙ sym (cond-false (has set q && (c == k)) (handed_parting (part q) t (stay_in (diary q) c)) (stay_in (diary q) c) (and_left (has set q) (c == k) n)))
      (cases_Bool (has set q)) in
      let after = parted_together P sound.holds set k K later regular far.0 fits all refl in
      record {
        holds = subst Holds (sym (same_picture (picture g1 diary' (suc time))
            (record { phase = λ q. if has set q then Transitional k set else phase_of g q; count = delivered_to g; conf = P.conf; number = P.number; stay = touched (λ q c. has set q && (c == k)) (λ q. handed_parting (part q) t) P.stay; time = suc time })
            phases counts (conf_of g1 g confs) (ap length confs) stays refl))
            (ticked (record P { phase = λ q. if has set q then Transitional k set else P.phase q; stay = touched (λ q c. has set q && (c == k)) (λ q. handed_parting (part q) t) P.stay }) after);
        books = λ q. ⊎_elim
            (λ m. subst (Booked (conf_in (phase_of g1 q))) (sym (mine q m))
            (subst (λ x. Booked x (let d = diary q in record d { now = handed_parting (part q) t d.now })) (ap conf_in (regular q m) ∙ sym (ap conf_in (phases q ∙ cond-true (has set q) (Transitional k set) (phase_of g q) m)))
            (Booked-now (conf_in (phase_of g q)) (diary q) (handed_parting (part q) t) (subst (λ z. 0 < z) (sym (ap conf_in (regular q m))) pos) (sound.books q))))
            (λ n. subst (Booked (conf_in (phase_of g1 q))) (sym (others q n))
            (subst (λ x. Booked x (diary q)) (sym (ap conf_in (phases q ∙ cond-false (has set q) (Transitional k set) (phase_of g q) n))) (sound.books q)))
            (cases_Bool (has set q));
        sends = Sends-fewer (phase_of g) (phase_of g1) (unordered_of g) (unordered_of g1) (configuration g) (configuration g1) (length g.configurations) (length g1.configurations) sent
            (λ q c e. ⊎_elim
            (λ m. absurd (let clash : Transitional k set ≡ Regular c = sym (phases q ∙ cond-true (has set q) (Transitional k set) (phase_of g q) m) ∙ e in cc))
            (λ n. (
              sym (phases q ∙ cond-false (has set q) (Transitional k set) (phase_of g q) n) ∙ e,
              ap (λ o. option_map_or (λ (s : Standing M). s.unordered) o []) (standings q ∙ cond-false (has set q) (Some (new g q)) (standing_of g q) n),
            ))
            (cases_Bool (has set q)))
            (conf_of g1 g confs) (ap length confs) sound.sends;
      }

  -- a list with one more element, by places
  at_place-push : (xs : List (Configuration M)) (C : Configuration M) (c : ℕ) → at_place (xs ++ C ∷ []) c ≡ put (at_place xs) (suc (length xs)) (Some C) c
  at_place-push xs C zero = sym (cond-false (0 == suc (length xs)) (Some C) None (ne_eqb 0 (suc (length xs)) (λ z. omega arith)))
  at_place-push [] C (suc zero) = sym (cond-true (1 == 1) (Some C) None (eq-eqb 1 1 refl))
  at_place-push [] C (suc (suc c)) = sym (cond-false (suc (suc c) == 1) (Some C) None (ne_eqb (suc (suc c)) 1 (λ z. omega arith)))
  at_place-push (x ∷ xs) C (suc zero) = sym (cond-false (1 == suc (suc (length xs))) (Some C) (Some x) (ne_eqb 1 (suc (suc (length xs))) (λ z. omega arith)))
  at_place-push (x ∷ xs) C (suc (suc c)) = at_place-push xs C (suc c)
      ∙ ap (λ b. cond b (Some C) (at_place xs (suc c)))
      (⊎_elim (λ e. eq-eqb (suc c) (suc (length xs)) e ∙ sym (eq-eqb (suc (suc c)) (suc (suc (length xs))) (omega arith)))
      (λ ne. ne_eqb (suc c) (suc (length xs)) ne ∙ sym (ne_eqb (suc (suc c)) (suc (suc (length xs))) (λ e. ne (omega arith)))) (cases_eq (suc c) (suc (length xs))))

  configuration-more : (g : GroupState M) (C : Configuration M) (c : ℕ) →
      configuration (record g { configurations = g.configurations ++ C ∷ [] }) c ≡ put (configuration g) (suc (length g.configurations)) C c
  unfolding configuration
  configuration-more g C c = ap (λ o. option_map_or (λ (c : Configuration M). c) o no_configuration) (at_place-push g.configurations C c)
      ∙ at-cond (λ o. option_map_or (λ (c : Configuration M). c) o no_configuration) (c == suc (length g.configurations)) (Some C) (at_place g.configurations c)

  standing_of-more : (g : GroupState M) (C : Configuration M) (q : ℕ) → standing_of (record g { configurations = g.configurations ++ C ∷ [] }) q ≡ standing_of g q
  unfolding standing_of
  standing_of-more g C q = refl

  -- what comes next for those who leave: all who parted with one of them come too, or left, or had ended before
  next_with_all : (g : GroupState M) (diary : ℕ → Diary M) (sent : ℕ → ℕ → List M) (time : ℕ) (set left : List ℕ) → Sound g diary sent time →
      any_of (still_regular g) set ≡ None → not_together g set left ≡ None → (p q c : ℕ) (t : Parting M) → has set p ≡ true → conf_in (phase_of g p) ≡ c → 0 < c →
      (stay_in (diary p) c).parting ≡ Some t → has t.set q ≡ true →
      (has set q ≡ true) ⊎ (has left q ≡ true) ⊎ EndedBefore time (stay_in (diary q) c).way
  next_with_all g diary sent time set left sound still tests p q c t m e pos parting mq = by_set (cases_Bool (has set q)) (cases_Bool (has left q))
    where
      h : Holds (picture g diary time)
      h = sound.holds

      both : ((stay_in (diary q) c).parting ≡ Some t) × (length (stay_in (diary q) c).regular ≡ length (stay_in (diary p) c).regular)
      both = h.together p q c t parting mq

      apart_p : phase_of g p ≡ Transitional c t.set
      apart_p = ⊎_elim
          (λ r. absurd (let z : regular_in (phase_of g p) ≡ 0 = not_regular_now g p (any_none (still_regular g) set still p m) in
          let zc : 0 ≡ c = sym z ∙ ap regular_in r in omega arith))
          (λ w.
          let old = h.apart p c w.0 w.1 in
          let same : old.0 ≡ t = same_Some old.0 t (sym old.1 ∙ parting) in
          w.1 ∙ ap (Transitional c) (sym old.2 ∙ ap (λ (u : Parting M). u.set) same))
          (in_phase (phase_of g p) c e pos)

      not_never : (stay_in (diary q) c).way ≡ Never → ⊥
      not_never w = let clash : Some t ≡ None = sym both.0 ∙ (h.absent q c w).1 in cc

      not_here : has set q ≡ false → has left q ≡ false → (stay_in (diary q) c).way ≡ Here → ⊥
      not_here out stays w = ⊎_elim
          (λ r. let clash : Some t ≡ None = sym both.0 ∙ h.here q c r in cc)
          (λ v.
          let old = h.apart q c v.0 v.1 in
          let same : old.0 ≡ t = same_Some old.0 t (sym old.1 ∙ both.0) in
          let apart_q : phase_of g q ≡ Transitional c t.set = v.1 ∙ ap (Transitional c) (sym old.2 ∙ ap (λ (u : Parting M). u.set) same) in
          by_up apart_q (standing_of g q) refl)
          (in_phase (phase_of g q) c (h.gone q c w) pos)
        where
          by_up : phase_of g q ≡ Transitional c t.set → (o : Option (Standing M)) → standing_of g q ≡ o → ⊥
          by_up apart_q None e = let clash : Down ≡ Transitional c t.set = sym (ap (λ o. option_map_or (λ (s : Standing M). s.phase) o Down) e) ∙ apart_q in cc
          by_up apart_q (Some s) e = all_together g set left tests p q s m e (same_parting (phase_of g p) (phase_of g q) c t.set apart_p apart_q) out stays

      by_set : (has set q ≡ true) ⊎ (has set q ≡ false) → (has left q ≡ true) ⊎ (has left q ≡ false) → (has set q ≡ true) ⊎ (has left q ≡ true) ⊎ EndedBefore time (stay_in (diary q) c).way
      by_set (inl a) b = inl a
      by_set (inr a) (inl b) = inr (inl b)
      by_set (inr a) (inr b) = inr (inr (ended_by time (stay_in (diary q) c).way not_never (not_here a b) (h.earlier q c)))

  -- whoever is in a configuration and isn't regular has parted
  parted_before : (g : GroupState M) (diary : ℕ → Diary M) (sent : ℕ → ℕ → List M) (time : ℕ) → Sound g diary sent time → (q c : ℕ) →
      regular_in (phase_of g q) ≡ 0 → conf_in (phase_of g q) ≡ c → 0 < c → (stay_in (diary q) c).parting ≡ None → ⊥
  parted_before g diary sent time sound q c out e pos none = ⊎_elim
      (λ r. let zc : 0 ≡ c = sym out ∙ ap regular_in r in omega arith)
      (λ v. let old = sound.holds.apart q c v.0 v.1 in let clash : Some old.0 ≡ None = sym old.1 ∙ none in cc)
      (in_phase (phase_of g q) c e pos)

  -- a replica that isn't regular may be handed a new configuration
  may_now : (g : GroupState M) (diary : ℕ → Diary M) (sent : ℕ → ℕ → List M) (time : ℕ) → Sound g diary sent time → (q : ℕ) →
      regular_in (phase_of g q) ≡ 0 → may_begin (diary q) (suc (length g.configurations)) ≡ true
  may_now g diary sent time sound q out =
      let d = diary q in
      let k = suc (length g.configurations) in
      let b = sound.books q in
      and_from ((d.current == 0) || is_some d.now.parting) (not (k == 0) && not (was_there (stay_in d k).way))
      (⊎_elim (λ y. or_left (d.current == 0) (is_some d.now.parting) y)
      (λ n. or_right (d.current == 0) (is_some d.now.parting)
      (let ne : (d.current ≡ 0 → ⊥) = eqb-false d.current 0 n in
      let now_is : stay_in d d.current ≡ d.now = cond-true (d.current == d.current) d.now (d.past d.current) (eq-eqb d.current d.current refl) in
      has_parting d.now.parting (λ none. parted_before g diary sent time sound q d.current out (sym b.is_in) (omega arith) (ap (λ (s : Stay M). s.parting) now_is ∙ none))))
      (cases_Bool (d.current == 0)))
      (and_from (not (k == 0)) (not (was_there (stay_in d k).way)) (not_from_false (k == 0) (ne_eqb k 0 (λ z. omega arith)))
      (not_from_false (was_there (stay_in d k).way) (ap was_there (sound.holds.never q k (omega arith)))))
    where
      has_parting : (o : Option (Parting M)) → (o ≡ None → ⊥) → is_some o ≡ true
      has_parting None some = absurd (some refl)
      has_parting (Some t) some = refl

  -- the same end
  by_way : (time u : ℕ) (set other left others : List ℕ) → WentOn time set left ≡ WentOn u other others → (q x : ℕ) (diary : ℕ → Diary M) →
      (has set q ≡ true) ⊎ (has left q ≡ true) ⊎ EndedBefore time (stay_in (diary q) x).way →
      (has other q ≡ true) ⊎ (has others q ≡ true) ⊎ EndedBefore u (stay_in (diary q) x).way
  by_way time u set other left others same q x diary w =
      let tu : time ≡ u = cc in
      let so : set ≡ other = cc in
      let lo : left ≡ others = cc in
      subst (λ z. (has other q ≡ true) ⊎ (has others q ≡ true) ⊎ EndedBefore z (stay_in (diary q) x).way) tu
      (subst (λ z. (has z q ≡ true) ⊎ (has others q ≡ true) ⊎ EndedBefore time (stay_in (diary q) x).way) so
      (subst (λ z. (has set q ≡ true) ⊎ (has z q ≡ true) ⊎ EndedBefore time (stay_in (diary q) x).way) lo w))

  -- a new configuration begins
  pub merge_sound : (g : GroupState M) (diary : ℕ → Diary M) (sent : ℕ → ℕ → List M) (time : ℕ) (set left : List ℕ) → Sound g diary sent time → NamesOnce set → merge_refusal g set left ≡ None →
      (let o = merge g set in Sound o.group (λ q. fold (note time left) (diary q) (handed_to q o.handed)) sent (suc time))
  unfolding merge merge_refusal become_regular
  merge_sound g diary sent time set left sound once admitted =
      let a = first_none (empty_set set) (any_of (not_up g) set ∷ any_of (still_regular g) set ∷ not_together g set left ∷ []) admitted in
      let b = first_none (any_of (not_up g) set) (any_of (still_regular g) set ∷ not_together g set left ∷ []) a.1 in
      let c = first_none (any_of (still_regular g) set) (not_together g set left ∷ []) b.1 in
      let d = first_none (not_together g set left) [] c.1 in
      let h = sound.holds in
      let P = picture g diary time in
      let k = suc (length g.configurations) in
      let C : Configuration M = record { members = set; ordered = []; received = [] } in
      let made : GroupState M = record g { configurations = g.configurations ++ C ∷ [] } in
      let way : Way = WentOn time set left in
      let leaving : ℕ → Phase = λ q. if has set q then Alone else phase_of g q in
      let outside : (q : ℕ) → has set q ≡ true → regular_in (phase_of g q) ≡ 0 = λ q m. not_regular_now g q (any_none (still_regular g) set c.0 q m) in
      let with_all : (p q x : ℕ) (t : Parting M) → has set p ≡ true → conf_in (phase_of g p) ≡ x → 0 < x → (stay_in (diary p) x).parting ≡ Some t → has t.set q ≡ true →
      (has set q ≡ true) ⊎ (has left q ≡ true) ⊎ EndedBefore time (stay_in (diary q) x).way = next_with_all g diary sent time set left sound c.0 d.0 in
      let over = closed P h (has set) leaving (delivered_to g) way
      (λ q m. inr (cond-true (has set q) Alone (phase_of g q) m)) (λ q n. cond-false (has set q) Alone (phase_of g q) n) (λ q n. refl)
      (λ e. cc) (λ e. cc) (omega arith)
      (λ q x u other others m e pos same none. parted_before g diary sent time sound q x (outside q m) e pos none)
      (λ p q x t u other others m e pos parting same mq. by_way time u set other left others same q x diary (with_all p q x t m e pos parting mq)) in
      let between : Picture M = record {
        phase = leaving;
        count = delivered_to g;
        conf = P.conf;
        number = P.number;
        stay = touched (λ q c. has set q && ((c == conf_in (phase_of g q)) && not (c == 0))) (λ q s. going s way) P.stay;
        time = suc time;
      } in
      let after = opened between over set (λ q m. ap conf_in (cond-true (has set q) Alone (phase_of g q) m)) in
      let new : GroupState M → ℕ → Standing M = λ g p. record { id = p; phase = Regular k; delivered = 0; unordered = [] } in
      let g1 = fold (become_regular k) made set in
      let standings : (q : ℕ) → standing_of g1 q ≡ cond (has set q) (Some (new g q)) (standing_of g q) = λ q.
      fold_sets new (λ g q. refl) (λ g h q e. refl) set once made q ∙ ap (cond (has set q) (Some (new g q))) (standing_of-more g C q) in
      let confs : g1.configurations ≡ g.configurations ++ C ∷ [] = fold_sets_confs new set made in
      let phases : (q : ℕ) → phase_of g1 q ≡ cond (has set q) (Regular k) (phase_of g q) = λ q.
      ap (λ o. option_map_or (λ (s : Standing M). s.phase) o Down) (standings q) ∙ at-cond (λ o. option_map_or (λ (s : Standing M). s.phase) o Down) (has set q) (Some (new g q)) (standing_of g q) in
      let phases' : (q : ℕ) → phase_of g1 q ≡ cond (has set q) (Regular k) (leaving q) = λ q. phases q ∙ twice (has set q) (Regular k) Alone (phase_of g q) in
      let counts : (q : ℕ) → delivered_to g1 q ≡ cond (has set q) 0 (delivered_to g q) = λ q.
      ap (λ o. option_map_or (λ (s : Standing M). s.delivered) o 0) (standings q) ∙ at-cond (λ o. option_map_or (λ (s : Standing M). s.delivered) o 0) (has set q) (Some (new g q)) (standing_of g q) in
      let conf_at : (x : ℕ) → configuration g1 x ≡ put (configuration g) k C x = λ x. conf_of g1 made confs x ∙ configuration-more g C x in
      let number : length g1.configurations ≡ k = ap length confs ∙ length-append g.configurations (C ∷ []) ∙ (let e : length g.configurations + 1 ≡ suc (length g.configurations) = omega arith in e) in
      let handed : List (Handed M) = map (λ p. record { to = p; list = RegularIn k set ∷ [] }) set in
      let diary' : ℕ → Diary M = λ q. fold (note time left) (diary q) (handed_to q handed) in
      let past : ℕ → Diary M = λ q. ended (diary q) way in
      let mine : (q : ℕ) → has set q ≡ true → diary' q ≡ (let e = past q in record e { current = k; now = fresh set }) = λ q m.
      ap (fold (note time left) (diary q)) (handed_to-map (λ p. RegularIn k set ∷ []) set once q ∙ cond-true (has set q) (RegularIn k set ∷ []) [] m)
      ∙ noted_begin time left (diary q) k set (may_now g diary sent time sound q (outside q m)) in
      let others : (q : ℕ) → has set q ≡ false → diary' q ≡ diary q = λ q n.
      ap (fold (note time left) (diary q)) (handed_to-map (λ p. RegularIn k set ∷ []) set once q ∙ cond-false (has set q) (RegularIn k set ∷ []) [] n) in
      let stays : (q x : ℕ) → stay_in (diary' q) x ≡ (if has set q && (x == k) then fresh set else between.stay q x) = λ q x.
      let inner = (x == conf_in (phase_of g q)) && not (x == 0) in
      ⊎_elim
      (λ m. ap (λ d. stay_in d x) (mine q m) ∙ stay_in-begun k (past q) set (Booked-ended (conf_in (phase_of g q)) (diary q) way (sound.books q)) x
      ∙ ap₂ (λ y (s : Stay M). cond y (fresh set) s) (sym (ap (λ y. y && (x == k)) m))
      (stay_in-ended (conf_in (phase_of g q)) (diary q) way (sound.books q) x ∙ ap (λ y. cond y (going (stay_in (diary q) x) way) (stay_in (diary q) x)) (sym (ap (λ y. y && inner) m))))
      (λ n. ap (λ d. stay_in d x) (others q n)
      ∙ sym (cond-false (has set q && (x == k)) (fresh set) (between.stay q x) (and_left (has set q) (x == k) n)
      ∙ cond-false (has set q && inner) (going (stay_in (diary q) x) way) (stay_in (diary q) x) (and_left (has set q) inner n)))
      (cases_Bool (has set q)) in
      record {
        holds = subst Holds (sym (same_picture (picture g1 diary' (suc time))
            (record {
              phase = λ q. if has set q then Regular k else between.phase q;
              count = λ q. if has set q then 0 else between.count q;
              conf = put between.conf k C;
              number = k;
              stay = touched (λ q c. has set q && (c == k)) (λ q s. fresh set) between.stay;
              time = suc time;
            })
            phases' counts conf_at number stays refl)) after;
        books = λ q. ⊎_elim
            (λ m. subst (Booked (conf_in (phase_of g1 q))) (sym (mine q m))
            (subst (λ x. Booked x (let e = past q in record e { current = k; now = fresh set })) (sym (ap conf_in (phases q ∙ cond-true (has set q) (Regular k) (phase_of g q) m)))
            (Booked-begun k (past q) set (omega arith) (Booked-ended (conf_in (phase_of g q)) (diary q) way (sound.books q)))))
            (λ n. subst (Booked (conf_in (phase_of g1 q))) (sym (others q n))
            (subst (λ x. Booked x (diary q)) (sym (ap conf_in (phases q ∙ cond-false (has set q) (Regular k) (phase_of g q) n))) (sound.books q)))
            (cases_Bool (has set q));
        sends = record {
          begins = λ q x. ⊎_elim
              (λ same. subst (λ z. Begins (ordered_from q (configuration g1 z).ordered) (sent z q)) (sym same)
              (subst (λ (D : Configuration M). Begins (ordered_from q D.ordered) (sent k q)) (sym (conf_at k ∙ put-same (configuration g) k C)) (sent k q, refl)))
              (λ ne. subst (λ (D : Configuration M). Begins (ordered_from q D.ordered) (sent x q)) (sym (conf_at x ∙ put-other (configuration g) k C x ne)) (sound.sends.begins q x))
              (cases_eq x k);
          waits = λ q x e. ⊎_elim
              (λ m.
              let kx : k ≡ x = ap regular_in (sym (phases q ∙ cond-true (has set q) (Regular k) (phase_of g q) m) ∙ e) in
              let waiting : unordered_of g1 q ≡ [] = ap (λ o. option_map_or (λ (s : Standing M). s.unordered) o []) (standings q ∙ cond-true (has set q) (Some (new g q)) (standing_of g q) m) in
              subst (λ z. ordered_from q (configuration g1 z).ordered ++ unordered_of g1 q ≡ sent z q) kx
              (ap₂ (λ (D : Configuration M) w. ordered_from q D.ordered ++ w) (conf_at k ∙ put-same (configuration g) k C) waiting ∙ sym (sound.sends.unsent q k (omega arith))))
              (λ n.
              let old : phase_of g q ≡ Regular x = sym (phases q ∙ cond-false (has set q) (Regular k) (phase_of g q) n) ∙ e in
              let waiting : unordered_of g1 q ≡ unordered_of g q = ap (λ o. option_map_or (λ (s : Standing M). s.unordered) o []) (standings q ∙ cond-false (has set q) (Some (new g q)) (standing_of g q) n) in
              let le : x ≤ length g.configurations = subst (λ z. z ≤ length g.configurations) (ap conf_in old) (h.within q) in
              ap₂ (λ (D : Configuration M) w. ordered_from q D.ordered ++ w) (conf_at x ∙ put-other (configuration g) k C x (λ z. omega arith)) waiting ∙ sound.sends.waits q x old)
              (cases_Bool (has set q));
          unsent = λ q x lt. sound.sends.unsent q x (let e = number in omega arith);
          level = λ x. ⊎_elim
              (λ same. subst (λ z. length (configuration g1 z).received ≡ length (configuration g1 z).ordered) (sym same)
              (subst (λ (D : Configuration M). length D.received ≡ length D.ordered) (sym (conf_at k ∙ put-same (configuration g) k C)) refl))
              (λ ne. subst (λ (D : Configuration M). length D.received ≡ length D.ordered) (sym (conf_at x ∙ put-other (configuration g) k C x ne)) (sound.sends.level x))
              (cases_eq x k);
        };
      }
