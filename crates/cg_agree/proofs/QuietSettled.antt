-- A quiet configuration is settled: all that was said was handed to each member, and what a member is follows from what was handed to it.
use Rattle.std.proofs.Common.{◌≡◌, ℕ, ◌<◌, Bool, true, false, not, ◌&&◌, List, [], ◌++◌, Option, Some, None, IfSome, length, take, refl, sym, ap, ap₂, ◌∙◌, subst, inl, inr, arith}
use Rattle.std.specs.Prelude.{◌==◌, nat_le}
use Rattle.std.specs.Option.{option_map_or}
use Rattle.std.specs.List.{list_all}
use Rattle.std.proofs.lemmas.Bool.{cases_Bool, and_parts, and_from, not-true}
use Rattle.std.proofs.lemmas.List.{take_all}
use Rattle.cg_base.specs.declared.action_id.ActionId.{ActionId}
use Rattle.cg_base.specs.Cuts.{index_in}
use Rattle.cg_base.specs.Sets.{has, common}
use Rattle.cg_base.specs.SetLaws.{has-common, has-without}
use Rattle.cg_base.specs.MemberLaws.{list_all_in}
use Rattle.cg_action.specs.declared.action.Action.{Action}
use Rattle.cg_knowledge.specs.declared.summary.Summary.{Summary}
use Rattle.cg_knowledge.specs.Summaries.{senders, gone, remaining, most_updated}
use Rattle.cg_knowledge.specs.Verdict.{decides}
use Rattle.cg_queue.specs.Queue.{green_count, names_of}
use Rattle.cg_group.specs.declared.phase.Phase.TheVariants.{Regular}
use Rattle.cg_group.specs.State.{phase_of, delivered_to}
use Rattle.cg_client.specs.Replica.{RegPrim, NonPrim, Left, Replica}
use Rattle.cg_model.specs.World.{World, replica_of, is_left, is_left_state}
use Rattle.cg_model.specs.Quiet.{is_quiet, summaries_in, is_known_in, knows, is_settled, IsSettled}
use Rattle.cg_model.specs.Chronicle.{Told, Chronicle}
use Rattle.cg_model.specs.Fronts.{IsSomeWith, When}
use Rattle.cg_model.specs.Looks.{greens_of, told_in, conf_at, members_in, ordered_in, attempt_of, attempt_at, installation}
use Rattle.cg_model.specs.Talk.{Talk, is_announced, state_behind, acts_in}
use Rattle.cg_model.specs.FactsTalk.{whole_talk, handed_talk, count_behind, AreNumbered, AreNumberedAt}
use Rattle.cg_model.specs.FactsReplica.{HasModeData, IsModeData, IsCore, is_primary, IsEmptyIn, BufferEmpty}
use Rattle.cg_model.specs.FactsExchange.{IsInExchange, HasTakenOver, best_told}
use Rattle.cg_model.specs.FactsGreens.{IsOnLine, IsHandedGreen}
use Rattle.cg_model.specs.Facts.{Invariant}
use Rattle.cg_agree.proofs.DeadKept.{remaining-senders}
use Rattle.cg_agree_lemmas.specs.HeldMarks.{counted}
use Rattle.cg_agree.proofs.QuietTalk.{quiet-at, regular-there, handed-all, up-there, told-there, member-of, all-announced, state-there, summaries-are}
use Rattle.cg_agree.proofs.QuietKnown.{known-in}
use Rattle.cg_disk_records.specs.Holds.{cut_behind}

-- ---- who has left, and who remains

gone-sender : (heard : List Summary) (p : ℕ) → has (gone heard) p ≡ true → has (senders heard) p ≡ true
unfolding gone
gone-sender heard p is = at (most_updated heard) is where
  at : (o : Option Summary) → has (option_map_or (λ (s : Summary). common (senders heard) s.left) o []) p ≡ true → has (senders heard) p ≡ true
  at None is = absurd (let clash : false ≡ true = is in cc)
  at (Some s) is = (and_parts (has (senders heard) p) (has s.left p) (sym (has-common (senders heard) s.left p) ∙ is)).0

remains-not_gone : (heard : List Summary) (p : ℕ) → has (remaining heard) p ≡ true → has (gone heard) p ≡ false
unfolding remaining
remains-not_gone heard p is = not-true (has (gone heard) p) (and_parts (has (senders heard) p) (not (has (gone heard) p)) (sym (has-without (senders heard) (gone heard) p) ∙ is)).1

module _ (conf : ℕ) (t : Talk) (p : ℕ) where
  behind-gone : has (gone t.heard) p ≡ true → state_behind conf t p ≡ Left
  behind-gone out = rw out refl

  behind-outside : has (gone t.heard) p ≡ false → decides t.heard ≡ false → state_behind conf t p ≡ NonPrim true
  behind-outside here undecided = rw (here, undecided) refl

  behind-inside : has (gone t.heard) p ≡ false → decides t.heard ≡ true → is_announced t ≡ true → state_behind conf t p ≡ RegPrim
  behind-inside here decided all = rw (here, decided, all) refl

-- a member is settled where these summaries decide, or don't
abbrev pub settles : List Summary → Replica → Bool
settles heard r = is_settled (decides heard) r.state r.held

-- the replica is up and passes the test
abbrev pub passes_at : World → (Replica → Bool) → ℕ → Bool
passes_at w test p = option_map_or test (replica_of w p) false

inside-is : (r : Replica) → r.state ≡ RegPrim → r.held.queue.reds ≡ [] → r.held.queue.yellow ≡ [] → r.held.buffered ≡ [] → is_settled true r.state r.held ≡ true
inside-is r state reds yellow kept =
    let red = length r.held.queue.reds == 0 in
    let marked = length r.held.queue.yellow == 0 in
    ap (λ s. is_settled true s r.held) state
    ∙ and_from (red && marked) (length r.held.buffered == 0)
    (and_from red marked (ap (λ xs. length xs == 0) reds) (ap (λ xs. length xs == 0) yellow))
    (ap (λ xs. length xs == 0) kept)

outside-is : (r : Replica) → r.state ≡ NonPrim true → r.held.buffered ≡ [] → is_settled false r.state r.held ≡ true
outside-is r state kept = ap (λ s. is_settled false s r.held) state ∙ ap (λ xs. length xs == 0) kept

module _ (c : Chronicle) (i : Invariant c) (kept : BufferEmpty c) (conf : ℕ) (some : 0 < conf) (quiet : is_quiet c.world conf ≡ true) where
  abbrev talk : Talk
  talk = whole_talk c conf

  gone-left : (p : ℕ) → has (gone talk.heard) p ≡ true → is_left c.world p ≡ true
  gone-left p out =
      let is = member-of c i conf some quiet p (gone-sender talk.heard p out) in
      let up = up-there c i conf some quiet p is in
      ap (λ o. option_map_or (λ (r : Replica). is_left_state r.state) o false) up.1
      ∙ ap is_left_state (state-there c i conf some quiet p is up.0 up.1 ∙ behind-gone conf talk p out)

  -- ---- a member that remains

  module _ (p : ℕ) (stays : has (remaining talk.heard) p ≡ true) (r : Replica) (up : replica_of c.world p ≡ Some r) where
    is : has (members_in c conf) p ≡ true
    is = member-of c i conf some quiet p (remaining-senders talk.heard p stays)

    phase : phase_of c.world.group p ≡ Regular conf
    phase = (quiet-at c i conf some quiet p is).phase

    outside : decides talk.heard ≡ false → r.state ≡ NonPrim true
    outside undecided = state-there c i conf some quiet p is r up ∙ behind-outside conf talk p (remains-not_gone talk.heard p stays) undecided

    inside : decides talk.heard ≡ true → r.state ≡ RegPrim
    inside decided = state-there c i conf some quiet p is r up ∙ behind-inside conf talk p (remains-not_gone talk.heard p stays) decided (all-announced c i conf some quiet decided)

    mode : IsModeData c p r
    mode = subst (λ (o : Option Replica). IfSome o (IsModeData c p)) up (i.replica.mode_data p)

    data_inside : decides talk.heard ≡ true → HasModeData c r.held (phase_of c.world.group p) RegPrim
    data_inside decided = subst (HasModeData c r.held (phase_of c.world.group p)) (inside decided) mode.data_of

    empty_in : IsEmptyIn r.held r.state
    empty_in = subst (λ (o : Option Replica). IfSome o (λ r. IsEmptyIn r.held r.state)) up (kept p)

    core : IsCore c r.held (greens_of c p)
    core = subst (λ (o : Option Replica). IfSome o (λ r. IsCore c r.held (greens_of c p))) up (i.replica.cores.memory p)

    settled : settles talk.heard r ≡ true
    settled = elim (cases_Bool (decides talk.heard)) [
      | inl decided ↦
          let at = data_inside decided in
          ap (λ b. is_settled b r.state r.held) decided ∙ inside-is r (inside decided) at.1 at.2 (subst (IsEmptyIn r.held) (inside decided) empty_in)
      | inr undecided ↦
          ap (λ b. is_settled b r.state r.held) undecided ∙ outside-is r (outside undecided) (subst (IsEmptyIn r.held) (outside undecided) empty_in)
    ]

    -- its greens are what the talk makes of them
    greens-inside : decides talk.heard ≡ true → greens_of c p ≡ option_map_or installation (attempt_of c conf) [] ++ acts_in (ordered_in c conf)
    greens-inside decided =
        let a = attempt_at c r.held.prim.index in
        let line : IsOnLine c p r =
        subst (λ b. When b (IsOnLine c p r)) (ap is_primary (inside decided)) (subst (λ (o : Option Replica). IfSome o (λ r. When (is_primary r.state) (IsOnLine c p r))) up (i.green.primary_greens p)) in
        let handed : IsHandedGreen c p a RegPrim = subst (IsHandedGreen c p a) (inside decided) line.greens in
        let at : a.conf ≡ conf = line.conf ∙ ap conf_at phase in
        let opened : attempt_of c conf ≡ Some a = ap (λ ph. attempt_of c (conf_at ph)) (sym phase) ∙ (data_inside decided).0.opened in
        let all : take (delivered_to c.world.group p) (ordered_in c a.conf) ≡ ordered_in c conf =
        ap (λ k. take (delivered_to c.world.group p) (ordered_in c k)) at
        ∙ take_all (delivered_to c.world.group p) (ordered_in c conf) (let count = (quiet-at c i conf some quiet p is).handed in omega arith) in
        handed ∙ ap₂ (λ o xs. option_map_or installation o [] ++ acts_in xs) (sym opened) all

    greens-outside : decides talk.heard ≡ false → greens_of c p ≡ option_map_or (λ (b : Told). b.greens) (best_told c conf talk.heard) []
    greens-outside undecided =
        let told = told-there c i conf some quiet p is in
        let exchange : IsInExchange c conf told.0 r.held (greens_of c p) r.state =
        subst (λ (o : Option Told). IsSomeWith o (λ t. IsInExchange c conf t r.held (greens_of c p) r.state)) told.1
        (subst (λ (o : Option Replica). IfSome o (λ r. IsSomeWith (told_in c conf p) (λ t. IsInExchange c conf t r.held (greens_of c p) r.state))) up
        (i.exchange.exchange_progress conf p (regular-there c i conf some quiet p is))) in
        let taken : IsInExchange c conf told.0 r.held (greens_of c p) (NonPrim true) = subst (IsInExchange c conf told.0 r.held (greens_of c p)) (outside undecided) exchange in
        let same : (handed_talk c conf r.held.id).heard ≡ talk.heard = ap (λ q. (handed_talk c conf q).heard) mode.id ∙ ap (λ (t : Talk). t.heard) (handed-all c i conf some quiet p is) in
        at (best_told c conf talk.heard) told.0 (subst (λ heard. IsSomeWith (best_told c conf heard) (λ best. HasTakenOver heard best told.0 r.held (greens_of c p))) same taken) where
          at : (o : Option Told) (t : Told) → IsSomeWith o (λ best. HasTakenOver talk.heard best t r.held (greens_of c p)) → greens_of c p ≡ option_map_or (λ (b : Told). b.greens) o []
          at None t none = absurd none
          at (Some b) t over = over.greens

    count-is : green_count r.held.queue ≡ length (greens_of c p)
    count-is = counted c.start r.held (greens_of c p) (record { made_of = core.made_of; contiguous = core.contiguous; yellow_closed = core.yellow_closed })

    -- and so is what it knows of each creator
    numbered : AreNumbered c conf p r.held r.state
    numbered = subst (λ ph. AreNumberedAt c p ph r) phase (subst (λ (o : Option Replica). IfSome o (AreNumberedAt c p (phase_of c.world.group p))) up (i.talk.acts_numbered.handed p))

    numbers-known : (creator : ℕ) → index_in r.held.queue.red_cut creator ≡ count_behind talk creator
    numbers-known creator = elim (cases_Bool (decides talk.heard)) [
      | inl decided ↦
          let at : AreNumbered c conf p r.held RegPrim = subst (AreNumbered c conf p r.held) (inside decided) numbered in
          let cut : r.held.queue.red_cut ≡ r.held.queue.green_cut = core.made_of.red_cut ∙ ap (λ (xs : List Action). cut_behind r.held.queue.green_cut (names_of xs)) at.1 in
          ap (λ k. index_in k creator) cut ∙ at.0 creator ∙ ap (λ t. count_behind t creator) (handed-all c i conf some quiet p is)
      | inr undecided ↦
          let at : AreNumbered c conf p r.held (NonPrim true) = subst (AreNumbered c conf p r.held) (outside undecided) numbered in
          at.0 creator ∙ ap (λ t. count_behind t creator) (handed-all c i conf some quiet p is)
    ]

  settled-at : (p : ℕ) → has (remaining talk.heard) p ≡ true → passes_at c.world (settles talk.heard) p ≡ true
  settled-at p stays =
      let up = up-there c i conf some quiet p (member-of c i conf some quiet p (remaining-senders talk.heard p stays)) in
      ap (λ o. option_map_or (settles talk.heard) o false) up.1 ∙ settled p stays up.0 up.1

  one-count : (p q : ℕ) (r s : Replica) → has (remaining talk.heard) p ≡ true → replica_of c.world p ≡ Some r → has (remaining talk.heard) q ≡ true → replica_of c.world q ≡ Some s →
      green_count r.held.queue ≡ green_count s.held.queue
  one-count p q r s p_stays p_up q_stays q_up =
      count-is p p_stays r p_up ∙ ap length (elim (cases_Bool (decides talk.heard)) [
        | inl decided ↦ greens-inside p p_stays r p_up decided ∙ sym (greens-inside q q_stays s q_up decided)
        | inr undecided ↦ greens-outside p p_stays r p_up undecided ∙ sym (greens-outside q q_stays s q_up undecided)
      ])
      ∙ sym (count-is q q_stays s q_up)

  knows-as : (p : ℕ) (r : Replica) (id : ActionId) → has (remaining talk.heard) p ≡ true → replica_of c.world p ≡ Some r → knows r id ≡ is_known_in c.world conf id
  knows-as p r id stays up = ap (nat_le id.index) (numbers-known p stays r up id.creator) ∙ sym (known-in c i conf some quiet id)

  pub quiet-settled : IsSettled c.world conf
  quiet-settled =
      let heard = sym (summaries-are c i conf some quiet) in
      let stays : (p : ℕ) → has (remaining (summaries_in c.world conf)) p ≡ true → has (remaining talk.heard) p ≡ true = λ p is. ap (λ h. has (remaining h) p) heard ∙ is in
      record {
        left = subst (λ h. list_all (is_left c.world) (gone h) ≡ true) heard (list_all_in (is_left c.world) (gone talk.heard) gone-left);
        states = subst (λ h. list_all (passes_at c.world (settles h)) (remaining h) ≡ true) heard (list_all_in (passes_at c.world (settles talk.heard)) (remaining talk.heard) settled-at);
        greens = λ p q r s at_p at_q. one-count p q r s (stays p at_p.0) at_p.1 (stays q at_q.0) at_q.1;
        actions = λ p r id at_p one. knows-as p r id (stays p at_p.0) at_p.1;
      }
