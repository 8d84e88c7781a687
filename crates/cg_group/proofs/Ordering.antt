-- The invariant stays when messages are sent, ordered and received.
use Rattle.std.proofs.Common.{◌≡◌, ℕ, ◌<◌, ◌≤◌, Bool, true, false, cond, ◌&&◌, not, List, [], ◌∷◌, ◌++◌, length, Option, Some, None, refl, sym, ap, ap₂, subst, ◌∙◌, arith, eq-eqb, eqb-true, ⊎_elim, fold, filter, map, append-nil, append_assoc, if◌then◌else◌}
use Rattle.std.specs.Prelude.{◌==◌}
use Rattle.std.specs.Option.{option_map_or}
use Rattle.std.proofs.lemmas.Bool.{cases_Bool, cases_eq, cond-true, cond-false, ne_eqb, eqb-false, and_parts, and_right}
use Rattle.std.proofs.lemmas.List.{map-append}
use Rattle.std.proofs.lemmas.List.Elements.{filter-append}
use Rattle.cg_base.specs.Lists.{above_up_to, Each}
use Rattle.cg_group.specs.declared.phase.Phase.{Phase}
use Rattle.cg_group.specs.declared.phase.Phase.TheVariants.{Down, Regular}
use Rattle.cg_group.specs.State.{Configuration, Standing, Sent, GroupState, standing_of, configuration, phase_of, delivered_to, unordered_of, home, regular_in, set_standing, set_configuration}
use Rattle.cg_group.specs.Events.{send_from, send, with_receipt, with_message, order_from, order, receive, order_all, receive_all, gather, regulars}
use Rattle.cg_group.specs.History.{Diary}
use Rattle.cg_group.specs.Synchrony.{Begins, ordered_from}
use Rattle.cg_base.specs.EachLaws.{Each-above}
use Rattle.cg_group.proofs.Picture.{Holds, conf_in}
use Rattle.cg_group.specs.GrownLaws.{Grows, ordered-receipt, level-receipt, Grows-receipt, level-message, ordered-message, Grows-message}
use Rattle.cg_group.specs.LookupLaws.{put, put-own, put-other, put-same, phase_of-set, delivered_to-set, unordered_of-set, configuration-set_standing, configurations-set_standing, standing_of-set_configuration, configuration-set, count-set_configuration, set_configuration-zero, standing_id}
use Rattle.cg_group.proofs.Growing.{grown}
use Rattle.cg_group.proofs.Diaries.{Booked}
use Rattle.cg_group.proofs.Sound.{Sound, Sends, Sends-grown, picture, same_picture, regular_phase}

module _ {M : Type 0} where
  -- other messages that wait
  abbrev pub with_waiting : GroupState M → Standing M → List M → GroupState M
  with_waiting g s w = set_standing g (record s { unordered = w })

  phases_stay : (g : GroupState M) (p : ℕ) (s : Standing M) (w : List M) → standing_of g p ≡ Some s → (q : ℕ) → phase_of (with_waiting g s w) q ≡ phase_of g q
  phases_stay g p s w e q = phase_of-set g (record s { unordered = w }) q
      ∙ put-own (phase_of g) s.id s.phase (ap (phase_of g) (standing_id g p s e) ∙ ap (λ o. option_map_or (λ (s : Standing M). s.phase) o Down) e) q

  counts_stay : (g : GroupState M) (p : ℕ) (s : Standing M) (w : List M) → standing_of g p ≡ Some s → (q : ℕ) → delivered_to (with_waiting g s w) q ≡ delivered_to g q
  counts_stay g p s w e q = delivered_to-set g (record s { unordered = w }) q
      ∙ put-own (delivered_to g) s.id s.delivered (ap (delivered_to g) (standing_id g p s e) ∙ ap (λ o. option_map_or (λ (s : Standing M). s.delivered) o 0) e) q

  waits_there : (g : GroupState M) (p : ℕ) (s : Standing M) (w : List M) → standing_of g p ≡ Some s → unordered_of (with_waiting g s w) p ≡ w
  waits_there g p s w e = unordered_of-set g (record s { unordered = w }) p
      ∙ cond-true (p == s.id) w (unordered_of g p) (eq-eqb p s.id (sym (standing_id g p s e)))

  waits_else : (g : GroupState M) (p : ℕ) (s : Standing M) (w : List M) → standing_of g p ≡ Some s → (q : ℕ) → (q ≡ p → ⊥) → unordered_of (with_waiting g s w) q ≡ unordered_of g q
  waits_else g p s w e q ne = unordered_of-set g (record s { unordered = w }) q ∙ put-other (unordered_of g) s.id w q (λ z. ne (z ∙ standing_id g p s e))

  same_after_waiting : (g : GroupState M) (diary : ℕ → Diary M) (time p : ℕ) (s : Standing M) (w : List M) → standing_of g p ≡ Some s →
      picture (with_waiting g s w) diary time ≡ picture g diary time
  same_after_waiting g diary time p s w e =
      same_picture (picture (with_waiting g s w) diary time) (picture g diary time) (phases_stay g p s w e) (counts_stay g p s w e)
      (configuration-set_standing g (record s { unordered = w })) (ap length (configurations-set_standing g (record s { unordered = w }))) (λ q c. refl) refl

  books_stay : (g h : GroupState M) (diary : ℕ → Diary M) → ((q : ℕ) → phase_of h q ≡ phase_of g q) → ((q : ℕ) → Booked (conf_in (phase_of g q)) (diary q)) →
      (q : ℕ) → Booked (conf_in (phase_of h q)) (diary q)
  books_stay g h diary same b q = subst (λ x. Booked (conf_in x) (diary q)) (sym (same q)) (b q)

  -- one member's messages wait otherwise, and the configuration in which it is regular has grown
  grown_at : (g g1 : GroupState M) (diary : ℕ → Diary M) (sent : ℕ → ℕ → List M) (time p k : ℕ) (D : Configuration M) → Sound g diary sent time →
      ((q : ℕ) → phase_of g1 q ≡ phase_of g q) → ((q : ℕ) → delivered_to g1 q ≡ delivered_to g q) → ((q : ℕ) → (q ≡ p → ⊥) → unordered_of g1 q ≡ unordered_of g q) →
      ((c : ℕ) → configuration g1 c ≡ configuration g c) → length g1.configurations ≡ length g.configurations →
      phase_of g p ≡ Regular k → Grows p (configuration g k) D →
      ((q : ℕ) → (q ≡ p → ⊥) → ordered_from q D.ordered ≡ ordered_from q (configuration g k).ordered) →
      ordered_from p D.ordered ++ unordered_of g1 p ≡ ordered_from p (configuration g k).ordered ++ unordered_of g p →
      length D.received ≡ length D.ordered → Sound (set_configuration g1 k D) diary sent time
  grown_at g g1 diary sent time p k D sound phases1 counts1 waits1 confs1 numbers1 regular grows others mine levels =
      let g2 = set_configuration g1 k D in
      let P = picture g diary time in
      let pos : 0 < k = sound.holds.regular_from_one p k regular in
      let within : k ≤ length g1.configurations = subst (λ z. k ≤ z) (sym numbers1) (subst (λ z. z ≤ length g.configurations) (ap conf_in regular) (sound.holds.within p)) in
      let same : (q : ℕ) → standing_of g2 q ≡ standing_of g1 q = standing_of-set_configuration g1 k D in
      let phases : (q : ℕ) → phase_of g2 q ≡ phase_of g q = λ q. ap (λ o. option_map_or (λ (s : Standing M). s.phase) o Down) (same q) ∙ phases1 q in
      let counts : (q : ℕ) → delivered_to g2 q ≡ delivered_to g q = λ q. ap (λ o. option_map_or (λ (s : Standing M). s.delivered) o 0) (same q) ∙ counts1 q in
      let confs : (c : ℕ) → configuration g2 c ≡ put (configuration g) k D c = λ c. configuration-set g1 k D pos within c ∙ ap (cond (c == k) D) (confs1 c) in
      let numbers : length g2.configurations ≡ length g.configurations = count-set_configuration g1 k D ∙ numbers1 in
      let conf_k : configuration g2 k ≡ D = confs k ∙ put-same (configuration g) k D in
      let same_waits : (q : ℕ) → unordered_of g2 q ≡ unordered_of g1 q = λ q. ap (λ o. option_map_or (λ (s : Standing M). s.unordered) o []) (same q) in
      record {
        holds = subst Holds (sym (same_picture (picture g2 diary time) (record P { conf = put P.conf k D }) phases counts confs numbers (λ q c. refl) refl))
            (grown P sound.holds p k D regular grows);
        books = books_stay g g2 diary phases sound.books;
        sends =
            let moved = Sends-grown (phase_of g) (unordered_of g) (unordered_of g2) (configuration g) (configuration g2) (length g.configurations) sent p k sound.sends regular
            (λ c ne. confs c ∙ put-other (configuration g) k D c ne)
            (λ q ne. same_waits q ∙ waits1 q ne)
            (λ q ne. ap (λ (C : Configuration M). ordered_from q C.ordered) conf_k ∙ others q ne)
            (ap₂ (λ (C : Configuration M) z. ordered_from p C.ordered ++ z) conf_k (same_waits p) ∙ mine)
            (subst (λ (C : Configuration M). length C.received ≡ length C.ordered) (sym conf_k) levels) in
            record {
              begins = moved.begins;
              waits = λ q c r. moved.waits q c (sym (phases q) ∙ r);
              unsent = λ q c lt. moved.unsent q c (subst (λ z. z < c) numbers lt);
              level = moved.level;
            };
      }

  -- the ordered messages of one sender, with one more at the end
  ordered_from-more : (q p : ℕ) (m : M) (xs : List (Sent M)) → ordered_from q (xs ++ record { from = p; message = m } ∷ []) ≡ ordered_from q xs ++ (if p == q then m ∷ [] else [])
  ordered_from-more q p m xs =
      let x : Sent M = record { from = p; message = m } in
      ap (map (λ (s : Sent M). s.message)) (filter-append (λ (s : Sent M). s.from == q) xs (x ∷ []))
      ∙ map-append (λ (s : Sent M). s.message) (filter (λ (s : Sent M). s.from == q) xs) (filter (λ (s : Sent M). s.from == q) (x ∷ []))
      ∙ ap (λ z. ordered_from q xs ++ z) (last (p == q))
    where
      last : (b : Bool) → map (λ (s : Sent M). s.message) (cond b (record { from = p; message = m } ∷ []) []) ≡ (if b then m ∷ [] else [])
      last true = refl
      last false = refl

  -- the oldest message of a replica is ordered, if it has one
  ordered_one : (g : GroupState M) (diary : ℕ → Diary M) (sent : ℕ → ℕ → List M) (time p : ℕ) (s : Standing M) (m : M) (rest : List M) → Sound g diary sent time →
      standing_of g p ≡ Some s → s.unordered ≡ m ∷ rest → Sound (order_from g s (m ∷ rest)) diary sent time
  unfolding order_from
  ordered_one g diary sent time p s m rest sound e w =
      let k = regular_in s.phase in
      let phase_p : phase_of g p ≡ s.phase = ap (λ o. option_map_or (λ (s : Standing M). s.phase) o Down) e in
      let waiting_p : unordered_of g p ≡ m ∷ rest = ap (λ o. option_map_or (λ (s : Standing M). s.unordered) o []) e ∙ w in
      ⊎_elim
      (λ (z : k ≡ 0).
      let g1 = with_waiting g s rest in
      let C = with_message (configuration g k) s.id m in
      let same : set_configuration g1 k C ≡ g1 = ap (λ x. set_configuration g1 x C) z ∙ set_configuration-zero g1 C in
      let silent : (c : ℕ) → phase_of g p ≡ Regular c → ⊥ = λ c r.
      let zero_c : 0 ≡ c = sym z ∙ ap regular_in (sym phase_p ∙ r) in
      let pos : 0 < c = sound.holds.regular_from_one p c r in omega arith in
      subst (λ (x : GroupState M). Sound x diary sent time) (sym same) (record {
        holds = subst Holds (sym (same_after_waiting g diary time p s rest e)) sound.holds;
        books = books_stay g g1 diary (phases_stay g p s rest e) sound.books;
        sends = record {
          begins = λ q c. subst (λ (C : Configuration M). Begins (ordered_from q C.ordered) (sent c q)) (sym (configuration-set_standing g (record s { unordered = rest }) c)) (sound.sends.begins q c);
          waits = λ q c r.
              let old = sym (phases_stay g p s rest e q) ∙ r in
              let ne : (q ≡ p → ⊥) = λ qp. silent c (ap (phase_of g) (sym qp) ∙ old) in
              ap₂ (λ (C : Configuration M) z. ordered_from q C.ordered ++ z) (configuration-set_standing g (record s { unordered = rest }) c) (waits_else g p s rest e q ne) ∙ sound.sends.waits q c old;
          unsent = λ q c lt. sound.sends.unsent q c (subst (λ (z : List (Configuration M)). length z < c) (configurations-set_standing g (record s { unordered = rest })) lt);
          level = λ c. subst (λ (C : Configuration M). length C.received ≡ length C.ordered) (sym (configuration-set_standing g (record s { unordered = rest }) c)) (sound.sends.level c);
        };
      }))
      (λ (ne : k ≡ 0 → ⊥).
      let regular : phase_of g p ≡ Regular k = phase_p ∙ regular_phase s.phase k refl (omega arith) in
      let C = configuration g k in
      let level = sound.sends.level k in
      let D = with_message C s.id m in
      let grows : Grows s.id C D = Grows-message C s.id m level in
      let id : s.id ≡ p = standing_id g p s e in
      grown_at g (with_waiting g s rest) diary sent time p k D sound (phases_stay g p s rest e) (counts_stay g p s rest e) (waits_else g p s rest e)
      (configuration-set_standing g (record s { unordered = rest })) (ap length (configurations-set_standing g (record s { unordered = rest }))) regular (subst (λ z. Grows z C D) id grows)
      (λ q nq. ap (ordered_from q) (ordered-message C s.id m) ∙ ordered_from-more q s.id m C.ordered
      ∙ ap (λ b. ordered_from q C.ordered ++ (if b then m ∷ [] else [])) (ne_eqb s.id q (λ z. nq (sym z ∙ id))) ∙ append-nil (ordered_from q C.ordered))
      (ap (λ z. ordered_from p D.ordered ++ z) (waits_there g p s rest e) ∙ ap (λ z. z ++ rest) (ap (ordered_from p) (ordered-message C s.id m) ∙ ordered_from-more p s.id m C.ordered
      ∙ ap (λ b. ordered_from p C.ordered ++ (if b then m ∷ [] else [])) (eq-eqb s.id p id))
      ∙ append_assoc (ordered_from p C.ordered) (m ∷ []) rest ∙ ap (λ z. ordered_from p C.ordered ++ z) (sym waiting_p))
      (level-message C s.id m level))
      (cases_eq k 0)

  pub order_sound : (g : GroupState M) (diary : ℕ → Diary M) (sent : ℕ → ℕ → List M) (time p : ℕ) → Sound g diary sent time → Sound (order g p) diary sent time
  unfolding order order_from
  order_sound g diary sent time p sound = by_standing (standing_of g p) refl
    where
      by_waiting : (s : Standing M) → standing_of g p ≡ Some s → (w : List M) → s.unordered ≡ w → Sound (order_from g s w) diary sent time
      by_waiting s e [] w = sound
      by_waiting s e (m ∷ rest) w = ordered_one g diary sent time p s m rest sound e w

      by_standing : (o : Option (Standing M)) → standing_of g p ≡ o → Sound (option_map_or (λ s. order_from g s s.unordered) o g) diary sent time
      by_standing None e = sound
      by_standing (Some s) e = by_waiting s e s.unordered refl

  -- a replica receives a place of its configuration
  pub receive_sound : (g : GroupState M) (diary : ℕ → Diary M) (sent : ℕ → ℕ → List M) (time p place : ℕ) → Sound g diary sent time →
      0 < place → place ≤ length (home g p).ordered → Sound (receive g p place) diary sent time
  unfolding receive
  receive_sound g diary sent time p place sound pos le =
      let k = regular_in (phase_of g p) in
      let C = configuration g k in
      let D = with_receipt C p place in
      ⊎_elim
      (λ (z : k ≡ 0). subst (λ (x : GroupState M). Sound x diary sent time) (sym (ap (λ x. set_configuration g x D) z ∙ set_configuration-zero g D)) sound)
      (λ (ne : k ≡ 0 → ⊥).
      let regular : phase_of g p ≡ Regular k = regular_phase (phase_of g p) k refl (omega arith) in
      grown_at g g diary sent time p k D sound (λ q. refl) (λ q. refl) (λ q ne. refl) (λ c. refl) refl regular
      (Grows-receipt C p place pos le (sound.sends.level k))
      (λ q nq. ap (ordered_from q) (ordered-receipt C p place))
      (ap (λ z. ordered_from p z ++ unordered_of g p) (ordered-receipt C p place))
      (level-receipt C p place ∙ sound.sends.level k ∙ sym (ap length (ordered-receipt C p place))))
      (cases_eq k 0)

  -- a receipt leaves each replica's configuration as long as it was
  home_stays : (g : GroupState M) (diary : ℕ → Diary M) (sent : ℕ → ℕ → List M) (time p place : ℕ) → Sound g diary sent time → length (home (receive g p place) p).ordered ≡ length (home g p).ordered
  unfolding receive
  home_stays g diary sent time p place sound =
      let k = regular_in (phase_of g p) in
      let C = configuration g k in
      let D = with_receipt C p place in
      let phase_same : phase_of (set_configuration g k D) p ≡ phase_of g p = ap (λ o. option_map_or (λ (s : Standing M). s.phase) o Down) (standing_of-set_configuration g k D p) in
      let there : length (configuration (set_configuration g k D) k).ordered ≡ length C.ordered = ⊎_elim
      (λ (z : k ≡ 0). ap (λ (x : GroupState M). length (configuration x k).ordered) (ap (λ x. set_configuration g x D) z ∙ set_configuration-zero g D))
      (λ (ne : k ≡ 0 → ⊥).
      let regular : phase_of g p ≡ Regular k = regular_phase (phase_of g p) k refl (omega arith) in
      let within : k ≤ length g.configurations = subst (λ z. z ≤ length g.configurations) (ap conf_in regular) (sound.holds.within p) in
      ap (λ (x : Configuration M). length x.ordered) (configuration-set g k D (omega arith) within k ∙ put-same (configuration g) k D) ∙ ap length (ordered-receipt C p place))
      (cases_eq k 0) in
      ap (λ x. length (configuration (set_configuration g k D) (regular_in x)).ordered) phase_same ∙ there

  receives_sound : (g : GroupState M) (diary : ℕ → Diary M) (sent : ℕ → ℕ → List M) (time p n : ℕ) (places : List ℕ) → Sound g diary sent time →
      length (home g p).ordered ≡ n → Each (λ place. (0 < place) × (place ≤ n)) places → Sound (fold (λ g place. receive g p place) g places) diary sent time
  receives_sound g diary sent time p n [] sound e each = sound
  receives_sound g diary sent time p n (place ∷ places) sound e each =
      receives_sound (receive g p place) diary sent time p n places
      (receive_sound g diary sent time p place sound each.0.0 (let le = each.0.1 in omega arith)) (home_stays g diary sent time p place sound ∙ e) each.1

  receive_all_sound : (g : GroupState M) (diary : ℕ → Diary M) (sent : ℕ → ℕ → List M) (time p : ℕ) → Sound g diary sent time → Sound (receive_all g p) diary sent time
  unfolding receive_all
  receive_all_sound g diary sent time p sound =
      receives_sound g diary sent time p (length (home g p).ordered) (above_up_to 0 (length (home g p).ordered)) sound refl (Each-above 0 (length (home g p).ordered))

  orders_sound : (g : GroupState M) (diary : ℕ → Diary M) (sent : ℕ → ℕ → List M) (time p : ℕ) (ms : List M) → Sound g diary sent time → Sound (fold (λ g m. order g p) g ms) diary sent time
  orders_sound g diary sent time p [] sound = sound
  orders_sound g diary sent time p (m ∷ ms) sound = orders_sound (order g p) diary sent time p ms (order_sound g diary sent time p sound)

  order_all_sound : (g : GroupState M) (diary : ℕ → Diary M) (sent : ℕ → ℕ → List M) (time p : ℕ) → Sound g diary sent time → Sound (order_all g p) diary sent time
  unfolding order_all
  order_all_sound g diary sent time p sound = orders_sound g diary sent time p (unordered_of g p) sound

  each_sound : (f : GroupState M → ℕ → GroupState M) (diary : ℕ → Diary M) (sent : ℕ → ℕ → List M) (time : ℕ) →
      ((g : GroupState M) (p : ℕ) → Sound g diary sent time → Sound (f g p) diary sent time) → (ps : List ℕ) (g : GroupState M) → Sound g diary sent time → Sound (fold f g ps) diary sent time
  each_sound f diary sent time keeps [] g sound = sound
  each_sound f diary sent time keeps (p ∷ ps) g sound = each_sound f diary sent time keeps ps (f g p) (keeps g p sound)

  pub gather_sound : (g : GroupState M) (diary : ℕ → Diary M) (sent : ℕ → ℕ → List M) (time : ℕ) → Sound g diary sent time → Sound (gather g) diary sent time
  unfolding gather
  gather_sound g diary sent time sound =
      let ordered = fold order_all g (regulars g) in
      each_sound receive_all diary sent time (λ g p. receive_all_sound g diary sent time p) (regulars ordered) ordered
      (each_sound order_all diary sent time (λ g p. order_all_sound g diary sent time p) (regulars g) g sound)

  -- what was sent, with one more message of a replica in its configuration
  abbrev pub sent_more : GroupState M → ℕ → M → (ℕ → ℕ → List M) → ℕ → ℕ → List M
  sent_more g p m sent c q = if (q == p) && ((c == regular_in (phase_of g p)) && not (c == 0)) then sent c q ++ m ∷ [] else sent c q

  Sends-same : (phase : ℕ → Phase) (waiting : ℕ → List M) (conf : ℕ → Configuration M) (number : ℕ) (sent sent' : ℕ → ℕ → List M) →
      ((c q : ℕ) → sent' c q ≡ sent c q) → Sends phase waiting conf number sent → Sends phase waiting conf number sent'
  Sends-same phase waiting conf number sent sent' same s = subst (Sends phase waiting conf number) (λ i. λ c q. sym (same c q) i) s

  -- nothing is sent where the replica isn't regular
  not_sent : (g : GroupState M) (p : ℕ) (m : M) (sent : ℕ → ℕ → List M) → regular_in (phase_of g p) ≡ 0 → (c q : ℕ) → sent_more g p m sent c q ≡ sent c q
  not_sent g p m sent z c q = cond-false ((q == p) && ((c == regular_in (phase_of g p)) && not (c == 0))) (sent c q ++ m ∷ []) (sent c q)
      (and_right (q == p) ((c == regular_in (phase_of g p)) && not (c == 0)) (ap (λ x. (c == x) && not (c == 0)) z ∙ never_both (c == 0)))
    where
      never_both : (b : Bool) → (b && not b) ≡ false
      never_both true = refl
      never_both false = refl

  -- elsewhere
  not_sent_there : (g : GroupState M) (p : ℕ) (m : M) (sent : ℕ → ℕ → List M) (c q : ℕ) → ((q ≡ p) × (c ≡ regular_in (phase_of g p)) → ⊥) → sent_more g p m sent c q ≡ sent c q
  not_sent_there g p m sent c q ne = cond-false ((q == p) && ((c == regular_in (phase_of g p)) && not (c == 0))) (sent c q ++ m ∷ []) (sent c q)
      (⊎_elim (λ y. absurd (ne (
        eqb-true q p (and_parts (q == p) ((c == regular_in (phase_of g p)) && not (c == 0)) y).0,
        eqb-true c (regular_in (phase_of g p)) (and_parts (c == regular_in (phase_of g p)) (not (c == 0)) (and_parts (q == p) ((c == regular_in (phase_of g p)) && not (c == 0)) y).1).0,
      )))
      (λ n. n) (cases_Bool ((q == p) && ((c == regular_in (phase_of g p)) && not (c == 0)))))

  sent_there : (g : GroupState M) (p : ℕ) (m : M) (sent : ℕ → ℕ → List M) → 0 < regular_in (phase_of g p) →
      sent_more g p m sent (regular_in (phase_of g p)) p ≡ sent (regular_in (phase_of g p)) p ++ m ∷ []
  sent_there g p m sent pos =
      let k = regular_in (phase_of g p) in
      cond-true ((p == p) && ((k == k) && not (k == 0))) (sent k p ++ m ∷ []) (sent k p)
      (rw (eq-eqb p p refl, eq-eqb k k refl, ne_eqb k 0 (λ z. omega arith)) refl)

  -- a replica sends a message
  pub send_sound : (g : GroupState M) (diary : ℕ → Diary M) (sent : ℕ → ℕ → List M) (time p : ℕ) (m : M) → Sound g diary sent time →
      Sound (send g p m) diary (sent_more g p m sent) time
  unfolding send send_from
  send_sound g diary sent time p m sound = by_standing (standing_of g p) refl
    where
      unsent_here : regular_in (phase_of g p) ≡ 0 → Sound g diary (sent_more g p m sent) time
      unsent_here z = record {
        holds = sound.holds;
        books = sound.books;
        sends = Sends-same (phase_of g) (unordered_of g) (configuration g) (length g.configurations) sent (sent_more g p m sent) (not_sent g p m sent z) sound.sends;
      }

      sent_here : (s : Standing M) → standing_of g p ≡ Some s → 0 < regular_in (phase_of g p) → Sound (with_waiting g s (s.unordered ++ m ∷ [])) diary (sent_more g p m sent) time
      sent_here s e pos =
          let k = regular_in (phase_of g p) in
          let w = s.unordered ++ m ∷ [] in
          let g1 = with_waiting g s w in
          let regular : phase_of g p ≡ Regular k = regular_phase (phase_of g p) k refl pos in
          let within : k ≤ length g.configurations = subst (λ z. z ≤ length g.configurations) (ap conf_in regular) (sound.holds.within p) in
          let waiting_p : unordered_of g p ≡ s.unordered = ap (λ o. option_map_or (λ (s : Standing M). s.unordered) o []) e in
          let confs = configuration-set_standing g (record s { unordered = w }) in
          record {
            holds = subst Holds (sym (same_after_waiting g diary time p s w e)) sound.holds;
            books = books_stay g g1 diary (phases_stay g p s w e) sound.books;
            sends = record {
              begins = λ q c. subst (λ (C : Configuration M). Begins (ordered_from q C.ordered) (sent_more g p m sent c q)) (sym (confs c))
                  (let old = sound.sends.begins q c in
                  ⊎_elim
                  (λ y. (
                    old.0 ++ m ∷ [],
                    sym (append_assoc (ordered_from q (configuration g c).ordered) old.0 (m ∷ [])) ∙ ap (λ z. z ++ m ∷ []) old.1
                        ∙ sym (cond-true ((q == p) && ((c == k) && not (c == 0))) (sent c q ++ m ∷ []) (sent c q) y),
                  ))
                  (λ n. (old.0, old.1 ∙ sym (cond-false ((q == p) && ((c == k) && not (c == 0))) (sent c q ++ m ∷ []) (sent c q) n)))
                  (cases_Bool ((q == p) && ((c == k) && not (c == 0)))));
              waits = λ q c r.
                  let old : phase_of g q ≡ Regular c = sym (phases_stay g p s w e q) ∙ r in
                  ⊎_elim
                  (λ qp.
                  let ck : c ≡ k = sym (ap regular_in (sym (ap (phase_of g) qp) ∙ old)) in
                  let here : ordered_from p (configuration g1 k).ordered ++ unordered_of g1 p ≡ sent_more g p m sent k p =
                  ap₂ (λ (C : Configuration M) z. ordered_from p C.ordered ++ z) (confs k) (waits_there g p s w e)
                  ∙ sym (append_assoc (ordered_from p (configuration g k).ordered) s.unordered (m ∷ []))
                  ∙ ap (λ z. (ordered_from p (configuration g k).ordered ++ z) ++ m ∷ []) (sym waiting_p)
                  ∙ ap (λ z. z ++ m ∷ []) (sound.sends.waits p k regular) ∙ sym (sent_there g p m sent pos) in
                  subst (λ x. ordered_from x (configuration g1 c).ordered ++ unordered_of g1 x ≡ sent_more g p m sent c x) (sym qp)
                  (subst (λ y. ordered_from p (configuration g1 y).ordered ++ unordered_of g1 p ≡ sent_more g p m sent y p) (sym ck) here))
                  (λ ne. ap₂ (λ (C : Configuration M) z. ordered_from q C.ordered ++ z) (confs c) (waits_else g p s w e q ne) ∙ sound.sends.waits q c old
                  ∙ sym (not_sent_there g p m sent c q (λ both. ne both.0)))
                  (cases_eq q p);
              unsent = λ q c lt.
                  let lt' : length g.configurations < c = subst (λ (z : List (Configuration M)). length z < c) (configurations-set_standing g (record s { unordered = w })) lt in
                  not_sent_there g p m sent c q (λ both. let ck = both.1 in omega arith) ∙ sound.sends.unsent q c lt';
              level = λ c. subst (λ (C : Configuration M). length C.received ≡ length C.ordered) (sym (confs c)) (sound.sends.level c);
            };
          }

      by_standing : (o : Option (Standing M)) → standing_of g p ≡ o → Sound (send_from g o m) diary (sent_more g p m sent) time
      by_standing None e = unsent_here (ap (λ o. regular_in (option_map_or (λ (s : Standing M). s.phase) o Down)) e)
      by_standing (Some s) e =
          let same : regular_in (phase_of g p) ≡ regular_in s.phase = ap (λ o. regular_in (option_map_or (λ (s : Standing M). s.phase) o Down)) e in
          ⊎_elim
          (λ y. subst (λ (x : GroupState M). Sound x diary (sent_more g p m sent) time) (sym (cond-true (regular_in s.phase == 0) g (with_waiting g s (s.unordered ++ m ∷ [])) y))
          (unsent_here (same ∙ eqb-true (regular_in s.phase) 0 y)))
          (λ n. subst (λ (x : GroupState M). Sound x diary (sent_more g p m sent) time) (sym (cond-false (regular_in s.phase == 0) g (with_waiting g s (s.unordered ++ m ∷ [])) n))
          (sent_here s e (let ne : (regular_in s.phase ≡ 0 → ⊥) = eqb-false (regular_in s.phase) 0 n in omega arith)))
          (cases_Bool (regular_in s.phase == 0))
