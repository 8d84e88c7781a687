-- The invariant stays when a replica comes up, goes down, or is handed the next places.
use Rattle.std.proofs.Common.{◌≡◌, ℕ, suc, ◌+◌, ◌-◌, ◌<◌, ◌≤◌, Bool, true, false, cond, ◌&&◌, not, List, [], ◌∷◌, ◌++◌, length, Option, Some, None, refl, sym, ap, ap₂, subst, ◌∙◌, arith, eq-eqb, eqb-true, inl, inr, ⊎_elim, fold, flat_map, append-nil, is_some, if◌then◌else◌, nat_lt, ltb-false}
use Rattle.std.specs.Prelude.{◌==◌}
use Rattle.std.specs.Option.{option_map_or}
use Rattle.std.proofs.lemmas.Bool.{cases_Bool, cond-true, cond-false, ne_eqb, and_left}
use Rattle.cg_base.specs.Lists.{above_up_to}
use Rattle.cg_group.specs.declared.delivery.Delivery.{Delivery}
use Rattle.cg_group.specs.declared.delivery.Handed.{Handed}
use Rattle.cg_group.specs.declared.phase.Phase.{Phase}
use Rattle.cg_group.specs.declared.phase.Phase.TheVariants.{Down, Alone, Regular}
use Rattle.cg_group.specs.declared.reason.Reason.{Reason}
use Rattle.cg_group.specs.State.{Configuration, Standing, GroupState, standing_of, configuration, phase_of, delivered_to, unordered_of, regular_in, is_up, set_standing}
use Rattle.cg_group.specs.Ready.{ready_in, ready}
use Rattle.cg_group.specs.Events.{come_up, go_down, with_delivered, deliver, deliveries_at}
use Rattle.cg_group.specs.Refusals.{not_up, not_regular, not_ready, deliver_refusal}
use Rattle.cg_group.specs.History.{Way, WentDown, Diary, Stay, stay_in, ended, going, note, handed_to}
use Rattle.cg_group.specs.Synchrony.{Begins, ordered_from}
use Rattle.cg_group.specs.PlaceLaws.{length-deliveries_at, ready-all_received, ready_in-within}
use Rattle.cg_group.proofs.Picture.{Holds, conf_in, handed_more, touched}
use Rattle.cg_group.specs.LookupLaws.{put, eqb_comm, at-cond, put-own, phase_of-set, delivered_to-set, unordered_of-set, configuration-set_standing, configurations-set_standing, standing_of-down, standing_id}
use Rattle.cg_group.proofs.Delivering.{delivered}
use Rattle.cg_group.proofs.Closing.{closed}
use Rattle.cg_group.proofs.Diaries.{Booked, AreMessages-at, noted_regular, Booked-now, stay_in-now, Booked-ended, stay_in-ended}
use Rattle.cg_group.proofs.Sound.{Sound, Sends, picture, same_picture, regular_phase, ticked}
use Rattle.cg_group.specs.RefusalLaws.{refuse_none}
use Rattle.cg_group.proofs.Admitted.{up_standing, regular_home}
use Rattle.cg_base.specs.OptionLaws.{first_none}

module _ {M : Type 0} where
  -- what was sent and ordered, when some are regular no longer
  pub Sends-fewer : (phase phase' : ℕ → Phase) (waiting waiting' : ℕ → List M) (conf conf' : ℕ → Configuration M) (number number' : ℕ) (sent : ℕ → ℕ → List M) →
      ((q c : ℕ) → phase' q ≡ Regular c → (phase q ≡ Regular c) × (waiting' q ≡ waiting q)) → ((c : ℕ) → conf' c ≡ conf c) → number' ≡ number →
      Sends phase waiting conf number sent → Sends phase' waiting' conf' number' sent
  Sends-fewer phase phase' waiting waiting' conf conf' number number' sent fewer same numbers s = record {
    begins = λ q c. subst (λ (C : Configuration M). Begins (ordered_from q C.ordered) (sent c q)) (sym (same c)) (s.begins q c);
    waits = λ q c e. let o = fewer q c e in ap₂ (λ (C : Configuration M) z. ordered_from q C.ordered ++ z) (same c) o.1 ∙ s.waits q c o.0;
    unsent = λ q c lt. s.unsent q c (subst (λ z. z < c) numbers lt);
    level = λ c. subst (λ (C : Configuration M). length C.received ≡ length C.ordered) (sym (same c)) (s.level c);
  }

  -- a replica that isn't up comes up
  pub up_sound : (g : GroupState M) (diary : ℕ → Diary M) (sent : ℕ → ℕ → List M) (time p : ℕ) → Sound g diary sent time → is_up g p ≡ false → Sound (come_up g p) diary sent (suc time)
  unfolding come_up
  up_sound g diary sent time p sound down =
      let new : Standing M = record { id = p; phase = Alone; delivered = 0; unordered = [] } in
      let g1 = set_standing g new in
      let P = picture g diary time in
      let gone : standing_of g p ≡ None = no_standing (standing_of g p) refl in
      let phase_p : phase_of g p ≡ Down = ap (λ o. option_map_or (λ (s : Standing M). s.phase) o Down) gone in
      let count_p : delivered_to g p ≡ 0 = ap (λ o. option_map_or (λ (s : Standing M). s.delivered) o 0) gone in
      let phases : (q : ℕ) → phase_of g1 q ≡ put (phase_of g) p Alone q = phase_of-set g new in
      let after = closed P sound.holds (λ q. q == p) (put (phase_of g) p Alone) (delivered_to g) (WentDown time)
      (λ q y. inr (cond-true (q == p) Alone (phase_of g q) y)) (λ q n. cond-false (q == p) Alone (phase_of g q) n) (λ q n. refl)
      (λ e. cc) (λ e. cc) (omega arith) (λ q c t set left a b d e. absurd cc) (λ q r c t u set left a b d e f m. absurd cc) in
      let stays : (q c : ℕ) → stay_in (diary q) c ≡ (if (q == p) && ((c == conf_in (phase_of g q)) && not (c == 0)) then going (stay_in (diary q) c) (WentDown time) else stay_in (diary q) c) = λ q c.
      sym (cond-false ((q == p) && ((c == conf_in (phase_of g q)) && not (c == 0))) (going (stay_in (diary q) c) (WentDown time)) (stay_in (diary q) c) (untouched q c phase_p)) in
      record {
        holds = subst Holds (sym (same_picture (picture g1 diary (suc time))
            (record { phase = put (phase_of g) p Alone; count = delivered_to g; conf = P.conf; number = P.number; stay = touched (λ q c. (q == p) && ((c == conf_in (phase_of g q)) && not (c == 0))) (λ q s. going s (WentDown time)) P.stay; time = suc time })
            phases (λ q. delivered_to-set g new q ∙ put-own (delivered_to g) p 0 count_p q) (configuration-set_standing g new) (ap length (configurations-set_standing g new)) stays refl)) after;
        books = λ q. subst (λ k. Booked k (diary q)) (sym (ap conf_in (phases q) ∙ at-cond conf_in (q == p) Alone (phase_of g q)
            ∙ put-own (λ q. conf_in (phase_of g q)) p 0 (ap conf_in phase_p) q)) (sound.books q);
        sends = Sends-fewer (phase_of g) (phase_of g1) (unordered_of g) (unordered_of g1) (configuration g) (configuration g1) (length g.configurations) (length g1.configurations) sent
            (λ q c e. ⊎_elim
            (λ y. absurd (let clash : Alone ≡ Regular c = sym (cond-true (q == p) Alone (phase_of g q) y) ∙ sym (phases q) ∙ e in cc))
            (λ n. (sym (cond-false (q == p) Alone (phase_of g q) n) ∙ sym (phases q) ∙ e, unordered_of-set g new q ∙ cond-false (q == p) [] (unordered_of g q) n))
            (cases_Bool (q == p)))
            (configuration-set_standing g new) (ap length (configurations-set_standing g new)) sound.sends;
      }
    where
      no_standing : (o : Option (Standing M)) → standing_of g p ≡ o → standing_of g p ≡ None
      no_standing None e = e
      no_standing (Some s) e = absurd (let clash : true ≡ false = sym (ap is_some e) ∙ down in cc)

      never_both : (b : Bool) → (b && not b) ≡ false
      never_both true = refl
      never_both false = refl

      untouched : (q c : ℕ) → phase_of g p ≡ Down → ((q == p) && ((c == conf_in (phase_of g q)) && not (c == 0))) ≡ false
      untouched q c d = ⊎_elim
          (λ y. let z : conf_in (phase_of g q) ≡ 0 = ap (λ r. conf_in (phase_of g r)) (eqb-true q p y) ∙ ap conf_in d in
          ap (λ b. b && ((c == conf_in (phase_of g q)) && not (c == 0))) y ∙ ap (λ z. (c == z) && not (c == 0)) z ∙ never_both (c == 0))
          (λ n. and_left (q == p) ((c == conf_in (phase_of g q)) && not (c == 0)) n) (cases_Bool (q == p))

  -- a replica goes down
  pub down_sound : (g : GroupState M) (diary : ℕ → Diary M) (sent : ℕ → ℕ → List M) (time p : ℕ) → Sound g diary sent time →
      Sound (go_down g p) (λ q. if q == p then ended (diary q) (WentDown time) else diary q) sent (suc time)
  unfolding go_down configuration
  down_sound g diary sent time p sound =
      let g1 = go_down g p in
      let P = picture g diary time in
      let way : Way = WentDown time in
      let diary' : ℕ → Diary M = λ q. if q == p then ended (diary q) way else diary q in
      let phases : (q : ℕ) → phase_of g1 q ≡ put (phase_of g) p Down q = λ q.
      ap (λ o. option_map_or (λ (s : Standing M). s.phase) o Down) (standing_of-down g p q) ∙ at-cond (λ o. option_map_or (λ (s : Standing M). s.phase) o Down) (q == p) None (standing_of g q) in
      let counts_rest : (q : ℕ) → (q == p) ≡ false → delivered_to g1 q ≡ delivered_to g q = λ q n.
      ap (λ o. option_map_or (λ (s : Standing M). s.delivered) o 0) (standing_of-down g p q ∙ cond-false (q == p) None (standing_of g q) n) in
      let waits_rest : (q : ℕ) → (q == p) ≡ false → unordered_of g1 q ≡ unordered_of g q = λ q n.
      ap (λ o. option_map_or (λ (s : Standing M). s.unordered) o []) (standing_of-down g p q ∙ cond-false (q == p) None (standing_of g q) n) in
      let after = closed P sound.holds (λ q. q == p) (put (phase_of g) p Down) (delivered_to g1) way
      (λ q y. inl (cond-true (q == p) Down (phase_of g q) y)) (λ q n. cond-false (q == p) Down (phase_of g q) n) counts_rest
      (λ e. cc) (λ e. cc) (omega arith) (λ q c t set left a b d e. absurd cc) (λ q r c t u set left a b d e f m. absurd cc) in
      let stays : (q c : ℕ) → stay_in (diary' q) c ≡ (if (q == p) && ((c == conf_in (phase_of g q)) && not (c == 0)) then going (stay_in (diary q) c) way else stay_in (diary q) c) = λ q c.
      ⊎_elim
      (λ y. ap (λ d. stay_in d c) (cond-true (q == p) (ended (diary q) way) (diary q) y) ∙ stay_in-ended (conf_in (phase_of g q)) (diary q) way (sound.books q) c
      ∙ ap (λ b. cond b (going (stay_in (diary q) c) way) (stay_in (diary q) c)) (sym (ap (λ b. b && ((c == conf_in (phase_of g q)) && not (c == 0))) y)))
      (λ n. ap (λ d. stay_in d c) (cond-false (q == p) (ended (diary q) way) (diary q) n)
      ∙ sym (cond-false ((q == p) && ((c == conf_in (phase_of g q)) && not (c == 0))) (going (stay_in (diary q) c) way) (stay_in (diary q) c) (and_left (q == p) ((c == conf_in (phase_of g q)) && not (c == 0)) n)))
      (cases_Bool (q == p)) in
      record {
        holds = subst Holds (sym (same_picture (picture g1 diary' (suc time))
            (record { phase = put (phase_of g) p Down; count = delivered_to g1; conf = P.conf; number = P.number; stay = touched (λ q c. (q == p) && ((c == conf_in (phase_of g q)) && not (c == 0))) (λ q s. going s way) P.stay; time = suc time })
            phases (λ q. refl) (λ c. refl) refl stays refl)) after;
        books = λ q. ⊎_elim
            (λ y. subst (Booked (conf_in (phase_of g1 q))) (sym (cond-true (q == p) (ended (diary q) way) (diary q) y))
            (subst (λ k. Booked k (ended (diary q) way)) (sym (ap conf_in (phases q ∙ cond-true (q == p) Down (phase_of g q) y))) (Booked-ended (conf_in (phase_of g q)) (diary q) way (sound.books q))))
            (λ n. subst (Booked (conf_in (phase_of g1 q))) (sym (cond-false (q == p) (ended (diary q) way) (diary q) n))
            (subst (λ k. Booked k (diary q)) (sym (ap conf_in (phases q ∙ cond-false (q == p) Down (phase_of g q) n))) (sound.books q)))
            (cases_Bool (q == p));
        sends = Sends-fewer (phase_of g) (phase_of g1) (unordered_of g) (unordered_of g1) (configuration g) (configuration g1) (length g.configurations) (length g1.configurations) sent
            (λ q c e. ⊎_elim
            (λ y. absurd (let clash : Down ≡ Regular c = sym (cond-true (q == p) Down (phase_of g q) y) ∙ sym (phases q) ∙ e in cc))
            (λ n. (sym (cond-false (q == p) Down (phase_of g q) n) ∙ sym (phases q) ∙ e, waits_rest q n))
            (cases_Bool (q == p)))
            (λ c. refl) refl sound.sends;
      }

  -- a replica is handed the next places
  pub deliver_sound : (g : GroupState M) (diary : ℕ → Diary M) (sent : ℕ → ℕ → List M) (time p n : ℕ) → Sound g diary sent time → deliver_refusal g p n ≡ None →
      (let o = deliver g p n in Sound o.group (λ q. fold (note time []) (diary q) (handed_to q o.handed)) sent (suc time))
  unfolding deliver deliver_refusal
  deliver_sound g diary sent time p n sound admitted =
      let a = first_none (not_up g p) (not_regular g p ∷ not_ready g p n ∷ []) admitted in
      let b = first_none (not_regular g p) (not_ready g p n ∷ []) a.1 in
      let c = first_none (not_ready g p n) [] b.1 in
      let up = up_standing g p a.0 in
      let s : Standing M = up.0 in
      let k = regular_in (phase_of g p) in
      let pos : 0 < k = regular_home g p b.0 in
      let regular : phase_of g p ≡ Regular k = regular_phase (phase_of g p) k refl pos in
      let from = delivered_to g p in
      let C = configuration g k in
      let enough : n ≤ ready_in C from = ltb-false (ready g p) n (refuse_none (nat_lt (ready g p) n) (Reason.NotReady (ready g p)) c.0) in
      let P = picture g diary time in
      let here = sound.holds.counted p k regular in
      let short = sound.holds.short p k in
      let fits : from + n ≤ length C.ordered = let w = ready_in-within C from in omega arith in
      let ms = deliveries_at C (above_up_to from (from + n)) in
      let many : length ms ≡ n = length-deliveries_at C from (from + n) (omega arith) fits ∙ (let e : (from + n) - from ≡ n = omega arith in e) in
      let new : Standing M = record s { delivered = from + n } in
      let g1 = set_standing g new in
      let group : with_delivered g p (from + n) ≡ g1 = ap (λ o. option_map_or (λ (s : Standing M). set_standing g (record s { delivered = from + n })) o g) up.1 in
      let id : s.id ≡ p = standing_id g p s up.1 in
      let phases : (q : ℕ) → phase_of g1 q ≡ phase_of g q = λ q. phase_of-set g new q
      ∙ put-own (phase_of g) s.id s.phase (ap (phase_of g) id ∙ ap (λ o. option_map_or (λ (s : Standing M). s.phase) o Down) up.1) q in
      let waits : (q : ℕ) → unordered_of g1 q ≡ unordered_of g q = λ q. unordered_of-set g new q
      ∙ put-own (unordered_of g) s.id s.unordered (ap (unordered_of g) id ∙ ap (λ o. option_map_or (λ (s : Standing M). s.unordered) o []) up.1) q in
      let counts : (q : ℕ) → delivered_to g1 q ≡ put (delivered_to g) p (from + n) q = λ q. delivered_to-set g new q ∙ ap (λ z. put (delivered_to g) z (from + n) q) id in
      let d = diary p in
      let booked = sound.books p in
      let in_k : d.current ≡ k = booked.is_in ∙ ap conf_in regular in
      let some : (d.current == 0) ≡ false = ne_eqb d.current 0 (λ z. omega arith) in
      let now_is : stay_in d k ≡ d.now = cond-true (k == d.current) d.now (d.past k) (eq-eqb k d.current (sym in_k)) in
      let none : d.now.parting ≡ None = sym (ap (λ (x : Stay M). x.parting) now_is) ∙ sound.holds.here p k regular in
      let handed : List (Handed M) = record { to = p; list = ms } ∷ [] in
      let diary' : ℕ → Diary M = λ q. fold (note time []) (diary q) (handed_to q handed) in
      let mine : diary' p ≡ record d { now = handed_more ms d.now } =
      ap (fold (note time []) d) (given p (eq-eqb p p refl) ms) ∙ noted_regular time [] ms (AreMessages-at C (above_up_to from (from + n))) d some none in
      let others : (q : ℕ) → (q == p) ≡ false → diary' q ≡ diary q = λ q ne. ap (fold (note time []) (diary q)) (not_given q ne ms) in
      let stays : (q c : ℕ) → stay_in (diary' q) c ≡ (if (q == p) && (c == k) then handed_more ms (stay_in (diary q) c) else stay_in (diary q) c) = λ q c.
      ⊎_elim
      (λ y. subst (λ r. stay_in (diary' r) c ≡ (if (r == p) && (c == k) then handed_more ms (stay_in (diary r) c) else stay_in (diary r) c)) (sym (eqb-true q p y))
      (ap (λ d. stay_in d c) mine ∙ stay_in-now (conf_in (phase_of g p)) d (handed_more ms) booked c
      ∙ ap (λ b. cond b (handed_more ms (stay_in d c)) (stay_in d c)) (ap (λ z. c == z) (ap conf_in regular) ∙ sym (ap (λ b. b && (c == k)) (eq-eqb p p refl)))))
      (λ ne. ap (λ d. stay_in d c) (others q ne)
      ∙ sym (cond-false ((q == p) && (c == k)) (handed_more ms (stay_in (diary q) c)) (stay_in (diary q) c) (and_left (q == p) (c == k) ne)))
      (cases_Bool (q == p)) in
      let after = delivered P sound.holds p k n ms regular many fits refl (λ place lt le. ready-all_received C from n place enough lt le) in
      subst (λ (x : GroupState M). Sound x diary' sent (suc time)) (sym group) (record {
        holds = subst Holds (sym (same_picture (picture g1 diary' (suc time))
            (record { phase = phase_of g; count = put (delivered_to g) p (from + n); conf = P.conf; number = P.number; stay = touched (λ q c. (q == p) && (c == k)) (λ q. handed_more ms) P.stay; time = suc time })
            phases counts (configuration-set_standing g new) (ap length (configurations-set_standing g new)) stays refl))
            (ticked (record P { count = put P.count p (from + n); stay = touched (λ q c. (q == p) && (c == k)) (λ q. handed_more ms) P.stay }) after);
        books = λ q. ⊎_elim
            (λ y. subst (λ r. Booked (conf_in (phase_of g1 r)) (diary' r)) (sym (eqb-true q p y))
            (subst (Booked (conf_in (phase_of g1 p))) (sym mine) (subst (λ x. Booked (conf_in x) (record d { now = handed_more ms d.now })) (sym (phases p))
            (Booked-now (conf_in (phase_of g p)) d (handed_more ms) (subst (λ z. 0 < z) (sym (ap conf_in regular)) pos) booked))))
            (λ ne. subst (Booked (conf_in (phase_of g1 q))) (sym (others q ne)) (subst (λ x. Booked (conf_in x) (diary q)) (sym (phases q)) (sound.books q)))
            (cases_Bool (q == p));
        sends = Sends-fewer (phase_of g) (phase_of g1) (unordered_of g) (unordered_of g1) (configuration g) (configuration g1) (length g.configurations) (length g1.configurations) sent
            (λ q c e. (sym (phases q) ∙ e, waits q)) (configuration-set_standing g new) (ap length (configurations-set_standing g new)) sound.sends;
      })
    where
      given : (q : ℕ) → (p == q) ≡ true → (ms : List (Delivery M)) → handed_to q (record { to = p; list = ms } ∷ []) ≡ ms
      given q y ms =
          let h : Handed M = record { to = p; list = ms } in
          ap (flat_map (λ (h : Handed M). h.list)) (cond-true (p == q) (h ∷ []) [] y) ∙ append-nil ms

      not_given : (q : ℕ) → (q == p) ≡ false → (ms : List (Delivery M)) → handed_to q (record { to = p; list = ms } ∷ []) ≡ []
      not_given q ne ms =
          let h : Handed M = record { to = p; list = ms } in
          ap (flat_map (λ (h : Handed M). h.list)) (cond-false (p == q) (h ∷ []) [] (eqb_comm p q ∙ ne))
