-- What holds of each message in the group holds behind each event of the group that says nothing new.
use Rattle.cg_group.specs.declared.phase.Phase.TheVariants.{Alone, Regular, Transitional}
use Rattle.cg_agree.proofs.MessagesKept.{AreSaid, DoWait, waiting-here, waits-set, waits-down, waits-sent, waits-order, waits-made, waits-received}
use Rattle.std.proofs.Common.{◌≡◌, ◌∷◌, List, None, Option, Some, fold, inl, inr, length, option_map, refl, subst, suc, sym, ℕ, []}
use Rattle.std.proofs.lemmas.Bool.{cond_both}
use Rattle.std.specs.Option.{option_map_or}
use Rattle.std.specs.Prelude.{◌==◌}
use Rattle.cg_agree_lemmas.specs.GroupChanges.{configurations-down, configurations-sent}
use Rattle.cg_agree_lemmas.specs.GroupSound.{made-is}
use Rattle.cg_model.specs.Small.{make_configuration}
use Rattle.cg_base.specs.Lists.{above_up_to, at_place, Each}
use Rattle.cg_base.specs.EachLaws.{Each-append}
use Rattle.cg_group.specs.Events.{become_regular, become_transitional, come_up, gather, go_down, merge, order, order_all, order_from, receive, receive_all, regulars, send_all, split, with_delivered, with_message, with_receipt}
use Rattle.cg_group.specs.LookupLaws.{at_place-changed, configurations-set_standing}
use Rattle.cg_group.specs.State.{Configuration, GroupState, Standing, configuration, delivered_to, home, no_configuration, phase_of, regular_in, set_configuration, set_standing, standing_of, unordered_of}
use Rattle.cg_wire.specs.declared.message.Msg.{Msg}

module _ (P : Msg → Type 0) where
  abbrev pub ArePlacedIn : GroupState Msg → Type 0
  ArePlacedIn g = (conf : ℕ) → AreSaid P (configuration g conf).ordered

  -- of each that has a place, and of each that waits for one
  abbrev pub GroupSays : GroupState Msg → Type 0
  GroupSays g = ArePlacedIn g × DoWait P g

  pub placed-same : (g h : GroupState Msg) → h.configurations ≡ g.configurations → ArePlacedIn g → ArePlacedIn h
  unfolding configuration
  placed-same g h e placed conf =
      subst (λ (list : List (Configuration Msg)). AreSaid P (option_map_or (λ c. c) (at_place list conf) no_configuration).ordered) (sym e) (placed conf)

  placed-set : (g : GroupState Msg) (conf : ℕ) (k : Configuration Msg) → AreSaid P k.ordered → ArePlacedIn g → ArePlacedIn (set_configuration g conf k)
  unfolding configuration set_configuration
  placed-set g conf k each placed j =
      let here = at_place g.configurations j in
      subst (λ (o : Option (Configuration Msg)). AreSaid P (option_map_or (λ c. c) o no_configuration).ordered) (sym (at_place-changed (λ old. k) g.configurations conf j))
      (cond_both (j == conf) (option_map (λ (old : Configuration Msg). k) here) here (λ (o : Option (Configuration Msg)). AreSaid P (option_map_or (λ c. c) o no_configuration).ordered)
      (λ y. changed here) (λ n. placed j))
    where
      changed : (o : Option (Configuration Msg)) → AreSaid P (option_map_or (λ c. c) (option_map (λ (old : Configuration Msg). k) o) no_configuration).ordered
      changed None = tt
      changed (Some c) = each

  -- ---- one replica orders, or receives

  order-placed : (g : GroupState Msg) (q : ℕ) → GroupSays g → ArePlacedIn (order g q)
  unfolding order order_from with_message
  order-placed g q is = at (standing_of g q) refl where
    from : (s : Standing Msg) (list : List Msg) → Each P list → ArePlacedIn (order_from g s list)
    from s [] each = is.0
    from s (m ∷ rest) each =
        let conf = regular_in s.phase in
        let h = set_standing g (record s { unordered = rest }) in
        placed-set h conf (with_message (configuration g conf) s.id m)
        (Each-append (λ x. P x.message) (configuration g conf).ordered (record { from = s.id; message = m } ∷ []) (is.0 conf) (each.0, tt))
        (placed-same g h (configurations-set_standing g (record s { unordered = rest })) is.0)

    at : (o : Option (Standing Msg)) → standing_of g q ≡ o → ArePlacedIn (option_map_or (λ s. order_from g s s.unordered) o g)
    at None e = is.0
    at (Some s) e = from s s.unordered (waiting-here P g q s e is.1)

  pub says-order : (g : GroupState Msg) (q : ℕ) → GroupSays g → GroupSays (order g q)
  says-order g q is = (order-placed g q is, waits-order P g q is.1)

  receive-placed : (g : GroupState Msg) (q place : ℕ) → GroupSays g → ArePlacedIn (receive g q place)
  unfolding receive with_receipt
  receive-placed g q place is =
      let conf = regular_in (phase_of g q) in
      placed-set g conf (with_receipt (configuration g conf) q place) (is.0 conf) is.0

  pub says-receive : (g : GroupState Msg) (q place : ℕ) → GroupSays g → GroupSays (receive g q place)
  says-receive g q place is = (receive-placed g q place is, waits-received P g q place is.1)

  -- ---- all do

  orders-all : (ms : List Msg) (g : GroupState Msg) (q : ℕ) → GroupSays g → GroupSays (fold (λ g m. order g q) g ms)
  orders-all [] g q is = is
  orders-all (m ∷ ms) g q is = orders-all ms (order g q) q (says-order g q is)

  orders-each : (list : List ℕ) (g : GroupState Msg) → GroupSays g → GroupSays (fold order_all g list)
  unfolding order_all
  orders-each [] g is = is
  orders-each (q ∷ list) g is = orders-each list (order_all g q) (orders-all (unordered_of g q) g q is)

  receives-all : (places : List ℕ) (g : GroupState Msg) (q : ℕ) → GroupSays g → GroupSays (fold (λ g place. receive g q place) g places)
  receives-all [] g q is = is
  receives-all (place ∷ places) g q is = receives-all places (receive g q place) q (says-receive g q place is)

  receives-each : (list : List ℕ) (g : GroupState Msg) → GroupSays g → GroupSays (fold receive_all g list)
  unfolding receive_all
  receives-each [] g is = is
  receives-each (q ∷ list) g is = receives-each list (receive_all g q) (receives-all (above_up_to 0 (length (home g q).ordered)) g q is)

  pub says-gather : (g : GroupState Msg) → GroupSays g → GroupSays (gather g)
  unfolding gather
  says-gather g is =
      let h = fold order_all g (regulars g) in
      receives-each (regulars h) h (orders-each (regulars g) g is)

  -- ---- one replica stands otherwise

  pub says-set : (g : GroupState Msg) (s : Standing Msg) → Each P s.unordered → GroupSays g → GroupSays (set_standing g s)
  says-set g s own is = (placed-same g (set_standing g s) (configurations-set_standing g s) is.0, waits-set P g s own is.1)

  pub says-sent : (ms : List Msg) (g : GroupState Msg) (q : ℕ) → Each P ms → GroupSays g → GroupSays (send_all g q ms)
  says-sent ms g q each is = (placed-same g (send_all g q ms) (configurations-sent ms g q) is.0, waits-sent P ms g q each is.1)

  pub says-down : (g : GroupState Msg) (q : ℕ) → GroupSays g → GroupSays (go_down g q)
  says-down g q is = (placed-same g (go_down g q) (configurations-down g q) is.0, waits-down P g q is.1)

  pub says-up : (g : GroupState Msg) (q : ℕ) → GroupSays g → GroupSays (come_up g q)
  unfolding come_up
  says-up g q is = says-set g (record { id = q; phase = Alone; delivered = 0; unordered = [] }) tt is

  pub says-handed : (g : GroupState Msg) (q n : ℕ) → GroupSays g → GroupSays (with_delivered g q n)
  says-handed g q n is = at (standing_of g q) refl where
    at : (o : Option (Standing Msg)) → standing_of g q ≡ o → GroupSays (option_map_or (λ s. set_standing g (record s { delivered = n })) o g)
    at None e = is
    at (Some s) e = says-set g (record s { delivered = n }) (waiting-here P g q s e is.1) is

  -- ---- a split and a merge

  parts : (set list : List ℕ) (g : GroupState Msg) → GroupSays g → GroupSays (fold (become_transitional set) g list)
  unfolding become_transitional
  parts set [] g is = is
  parts set (q ∷ list) g is =
      parts set list (become_transitional set g q)
      (says-set g (record { id = q; phase = Transitional (regular_in (phase_of g q)) set; delivered = delivered_to g q; unordered = [] }) tt is)

  pub says-split : (g : GroupState Msg) (set : List ℕ) → GroupSays g → GroupSays (split g set).group
  unfolding split
  says-split g set is = parts set set g is

  comes : (conf : ℕ) (list : List ℕ) (g : GroupState Msg) → GroupSays g → GroupSays (fold (become_regular conf) g list)
  unfolding become_regular
  comes conf [] g is = is
  comes conf (q ∷ list) g is = comes conf list (become_regular conf g q) (says-set g (record { id = q; phase = Regular conf; delivered = 0; unordered = [] }) tt is)

  pub says-merge : (g : GroupState Msg) (set : List ℕ) → GroupSays g → GroupSays (merge g set).group
  unfolding merge
  says-merge g set is = comes (suc (length g.configurations)) set (make_configuration g set) (placed, waits-made P g set is.1) where
    placed : ArePlacedIn (make_configuration g set)
    placed k = elim (made-is g set k) [
      | inl same ↦ subst (λ (c : Configuration Msg). AreSaid P c.ordered) (sym same) (is.0 k)
      | inr new ↦ subst (λ (c : Configuration Msg). AreSaid P c.ordered) (sym new.1) tt
    ]
