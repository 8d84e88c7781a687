-- That the messages of a group are calm: what each event of the group makes of that, and of where its replicas stand.
use Rattle.std.proofs.Common.{◌≡◌, ℕ, zero, suc, ◌+◌, List, [], ◌∷◌, ◌++◌, fold, length, Option, Some, None, option_map, refl, sym, subst}
use Rattle.std.specs.Prelude.{◌==◌, IfSome}
use Rattle.std.specs.Option.{option_map_or}
use Rattle.std.proofs.lemmas.Bool.{cond_both}
use Rattle.cg_base.specs.Lists.{at_place, above_up_to, Each}
use Rattle.cg_wire.specs.declared.message.Msg.{Msg}
use Rattle.cg_group.specs.declared.phase.Phase.TheVariants.{Alone, Regular, Transitional}
use Rattle.cg_group.specs.declared.delivery.Delivery.TheVariants.{Message}
use Rattle.cg_group.specs.declared.delivery.Handed.{Handed}
use Rattle.cg_group.specs.State.{Sent, Configuration, Standing, no_group, no_configuration, standing_of, regular_in, phase_of, configuration, home, unordered_of, delivered_to, set_standing, set_configuration}
use Rattle.cg_group.specs.Events.{come_up, go_down, send_from, send, send_all, with_receipt, with_message, order_from, order, receive, regulars, order_all, receive_all, gather, delivery_at, deliveries_at, with_delivered, deliver, furthest, transitional_places, handed_in_split, become_transitional, split, become_regular, merge}
use Rattle.cg_base.specs.EachLaws.{Each-append, Each-all}
use Rattle.cg_group.specs.LookupLaws.{at_place-changed, unordered_of-set, configuration-set_standing, standing_of-down}
use Rattle.cg_model.specs.PhaseLaws.{Group, StandAlike, sent-place, gather-place, deliver-place, next_conf}
use Rattle.cg_laws.proofs.Calm.{CalmMessage, CalmDelivery, Each-map}

-- ---- calm groups

abbrev CalmSent : Sent Msg → Type 0
CalmSent s = CalmMessage s.message

abbrev CalmConfiguration : Configuration Msg → Type 0
CalmConfiguration c = Each CalmSent c.ordered

pub record CalmGroup (g : Group) : Type 0 where
  pub ordered : (conf : ℕ) → CalmConfiguration (configuration g conf)
  pub waiting : (p : ℕ) → Each CalmMessage (unordered_of g p)

pub none-calm : CalmGroup no_group
unfolding configuration standing_of
none-calm = record { ordered = no_conf; waiting = λ p. tt } where
  no_conf : (conf : ℕ) → CalmConfiguration (configuration no_group conf)
  no_conf zero = tt
  no_conf (suc n) = tt

-- ---- changes of a group

-- one replica stands in this way, and waits with calm messages
set-calm : (g : Group) (s : Standing Msg) → CalmGroup g → Each CalmMessage s.unordered → CalmGroup (set_standing g s)
set-calm g s calm each = record {
  ordered = λ conf. subst CalmConfiguration (sym (configuration-set_standing g s conf)) (calm.ordered conf);
  waiting = λ p. subst (Each CalmMessage) (sym (unordered_of-set g s p))
      (cond_both (p == s.id) s.unordered (unordered_of g p) (Each CalmMessage) (λ y. each) (λ n. calm.waiting p));
}

configured-calm : (g : Group) (conf : ℕ) (c : Configuration Msg) → CalmGroup g → CalmConfiguration c → CalmGroup (set_configuration g conf c)
unfolding configuration set_configuration standing_of
configured-calm g conf c calm is = record {
  ordered = λ k. subst (λ o. CalmConfiguration (option_map_or (λ c. c) o no_configuration)) (sym (at_place-changed (λ old. c) g.configurations conf k))
      (cond_both (k == conf) (option_map (λ old. c) (at_place g.configurations k)) (at_place g.configurations k)
      (λ o. CalmConfiguration (option_map_or (λ c. c) o no_configuration)) (λ y. either (at_place g.configurations k)) (λ n. calm.ordered k));
  waiting = λ p. calm.waiting p;
} where
  either : (o : Option (Configuration Msg)) → CalmConfiguration (option_map_or (λ c. c) (option_map (λ old. c) o) no_configuration)
  either None = tt
  either (Some old) = is

-- ---- who stands as before

-- each replica stands as it did, and the group is calm still
pub record Keeps (g h : Group) : Type 0 where
  pub place : StandAlike g h
  pub calm : CalmGroup g → CalmGroup h

waiting-of : (g : Group) (p : ℕ) (s : Standing Msg) → standing_of g p ≡ Some s → CalmGroup g → Each CalmMessage s.unordered
waiting-of g p s found calm = subst (λ o. Each CalmMessage (option_map_or (λ (s : Standing Msg). s.unordered) o [])) found (calm.waiting p)

send-calm : (g : Group) (p : ℕ) (m : Msg) → CalmMessage m → CalmGroup g → CalmGroup (send g p m)
unfolding send send_from
send-calm g p m fine calm = at (standing_of g p) refl where
  at : (o : Option (Standing Msg)) → standing_of g p ≡ o → CalmGroup (send_from g o m)
  at None e = calm
  at (Some s) e =
      let new : Standing Msg = record s { unordered = s.unordered ++ m ∷ [] } in
      cond_both (regular_in s.phase == 0) g (set_standing g new) CalmGroup (λ y. calm)
      (λ n. set-calm g new calm (Each-append CalmMessage s.unordered (m ∷ []) (waiting-of g p s e calm) (fine, tt)))

sent-calm : (messages : List Msg) (g : Group) (p : ℕ) → Each CalmMessage messages → CalmGroup g → CalmGroup (send_all g p messages)
sent-calm [] g p each calm = calm
sent-calm (m ∷ messages) g p each calm = sent-calm messages (send g p m) p each.1 (send-calm g p m each.0 calm)

pub sent-keeps : (messages : List Msg) (g : Group) (p : ℕ) → Each CalmMessage messages → Keeps g (send_all g p messages)
sent-keeps messages g p each = record { place = sent-place messages g p; calm = sent-calm messages g p each }

order-calm : (g : Group) (p : ℕ) → CalmGroup g → CalmGroup (order g p)
unfolding order order_from with_message
order-calm g p calm = at (standing_of g p) refl where
  from : (s : Standing Msg) (messages : List Msg) → standing_of g p ≡ Some s → s.unordered ≡ messages → CalmGroup (order_from g s messages)
  from s [] e is = calm
  from s (m ∷ rest) e is =
      let conf = regular_in s.phase in
      let new : Standing Msg = record s { unordered = rest } in
      let all : Each CalmMessage (m ∷ rest) = subst (Each CalmMessage) is (waiting-of g p s e calm) in
      configured-calm (set_standing g new) conf (with_message (configuration g conf) s.id m) (set-calm g new calm all.1)
      (Each-append CalmSent (configuration g conf).ordered (_ ∷ []) (calm.ordered conf) (all.0, tt))

  at : (o : Option (Standing Msg)) → standing_of g p ≡ o → CalmGroup (option_map_or (λ s. order_from g s s.unordered) o g)
  at None e = calm
  at (Some s) e = from s s.unordered e refl

receive-calm : (g : Group) (p place : ℕ) → CalmGroup g → CalmGroup (receive g p place)
unfolding receive with_receipt
receive-calm g p place calm =
    let conf = regular_in (phase_of g p) in
    configured-calm g conf (with_receipt (configuration g conf) p place) calm (calm.ordered conf)

-- step by step
fold-calm : {X : Type 0} (f : Group → X → Group) → ((g : Group) (x : X) → CalmGroup g → CalmGroup (f g x)) → (xs : List X) (g : Group) → CalmGroup g → CalmGroup (fold f g xs)
fold-calm f each [] g calm = calm
fold-calm f each (x ∷ xs) g calm = fold-calm f each xs (f g x) (each g x calm)

order_all-calm : (g : Group) (p : ℕ) → CalmGroup g → CalmGroup (order_all g p)
unfolding order_all
order_all-calm g p = fold-calm (λ g m. order g p) (λ g m. order-calm g p) (unordered_of g p) g

receive_all-calm : (g : Group) (p : ℕ) → CalmGroup g → CalmGroup (receive_all g p)
unfolding receive_all
receive_all-calm g p = fold-calm (λ g place. receive g p place) (λ g place. receive-calm g p place) (above_up_to 0 (length (home g p).ordered)) g

gather-calm : (g : Group) → CalmGroup g → CalmGroup (gather g)
unfolding gather
gather-calm g calm =
    let ordered = fold order_all g (regulars g) in
    fold-calm receive_all receive_all-calm (regulars ordered) ordered (fold-calm order_all order_all-calm (regulars g) g calm)

pub gather-keeps : (g : Group) → Keeps g (gather g)
gather-keeps g = record { place = gather-place g; calm = gather-calm g }

delivered-calm : (g : Group) (p n : ℕ) → CalmGroup g → CalmGroup (with_delivered g p n)
delivered-calm g p n calm = at (standing_of g p) refl where
  at : (o : Option (Standing Msg)) → standing_of g p ≡ o → CalmGroup (option_map_or (λ s. set_standing g (record s { delivered = n })) o g)
  at None e = calm
  at (Some s) e = set-calm g (record s { delivered = n }) calm (waiting-of g p s e calm)

-- ---- what is handed out

abbrev pub CalmHanded : Handed Msg → Type 0
CalmHanded h = Each CalmDelivery h.list

placed-calm : (ordered : List (Sent Msg)) (place : ℕ) → Each CalmSent ordered → IfSome (at_place ordered place) CalmSent
placed-calm ordered zero each = tt
placed-calm [] (suc n) each = tt
placed-calm (s ∷ ordered) (suc zero) each = each.0
placed-calm (s ∷ ordered) (suc (suc n)) each = placed-calm ordered (suc n) each.1

delivery-calm : (c : Configuration Msg) (place : ℕ) → CalmConfiguration c → Each CalmDelivery (delivery_at c place)
unfolding delivery_at
delivery-calm c place calm = at (at_place c.ordered place) (placed-calm c.ordered place calm) where
  at : (o : Option (Sent Msg)) → IfSome o CalmSent → Each CalmDelivery (option_map_or (λ s. Message place s.from s.message ∷ []) o [])
  at None is = tt
  at (Some s) is = (is, tt)

deliveries-calm : (c : Configuration Msg) (places : List ℕ) → CalmConfiguration c → Each CalmDelivery (deliveries_at c places)
deliveries-calm c [] calm = tt
deliveries-calm c (place ∷ places) calm =
    Each-append CalmDelivery (delivery_at c place) (deliveries_at c places) (delivery-calm c place calm) (deliveries-calm c places calm)

pub deliver-keeps : (g : Group) (p k : ℕ) → Keeps g (deliver g p k).group
unfolding deliver
deliver-keeps g p k = record { place = deliver-place g p k; calm = delivered-calm g p (delivered_to g p + k) }

pub deliver-calm : (g : Group) (p k : ℕ) → CalmGroup g → Each CalmHanded (deliver g p k).handed
unfolding deliver
deliver-calm g p k calm =
    let from = delivered_to g p in
    (deliveries-calm (home g p) (above_up_to from (from + k)) (calm.ordered (regular_in (phase_of g p))), tt)

-- ---- who stands anew

pub up-calm : (g : Group) (p : ℕ) → CalmGroup g → CalmGroup (come_up g p)
unfolding come_up
up-calm g p calm = set-calm g (record { id = p; phase = Alone; delivered = 0; unordered = [] }) calm tt

pub down-calm : (g : Group) (p : ℕ) → CalmGroup g → CalmGroup (go_down g p)
unfolding go_down configuration
down-calm g p calm = record {
  ordered = calm.ordered;
  waiting = λ q. subst (λ (o : Option (Standing Msg)). Each CalmMessage (option_map_or (λ s. s.unordered) o [])) (sym (standing_of-down g p q))
      (cond_both (q == p) None (standing_of g q) (λ (o : Option (Standing Msg)). Each CalmMessage (option_map_or (λ s. s.unordered) o [])) (λ y. tt) (λ n. calm.waiting q));
}

-- ---- partings

parted-calm : (set rest : List ℕ) (g : Group) → CalmGroup g → CalmGroup (fold (become_transitional set) g rest)
unfolding become_transitional
parted-calm set [] g calm = calm
parted-calm set (p ∷ rest) g calm =
    parted-calm set rest (become_transitional set g p)
    (set-calm g (record { id = p; phase = Transitional (regular_in (phase_of g p)) set; delivered = delivered_to g p; unordered = [] }) calm tt)

pub split-calm : (g : Group) (set : List ℕ) → CalmGroup g → CalmGroup (split g set).group × Each CalmHanded (split g set).handed
unfolding split handed_in_split
split-calm g set calm = (
  parted-calm set set g calm,
  Each-map (handed_in_split g set) CalmHanded set (Each-all (λ p. CalmHanded (handed_in_split g set p)) (λ p. (
      let c = configuration g (regular_in (phase_of g p)) in
      let is = calm.ordered (regular_in (phase_of g p)) in
      let k = furthest g set in
      Each-append CalmDelivery (deliveries_at c (above_up_to (delivered_to g p) k)) (_ ∷ deliveries_at c (transitional_places c set k))
      (deliveries-calm c (above_up_to (delivered_to g p) k) is) (tt, deliveries-calm c (transitional_places c set k) is))) set),
)

-- ---- new configurations

joined-calm : (conf : ℕ) (rest : List ℕ) (g : Group) → CalmGroup g → CalmGroup (fold (become_regular conf) g rest)
unfolding become_regular
joined-calm conf [] g calm = calm
joined-calm conf (p ∷ rest) g calm =
    joined-calm conf rest (become_regular conf g p) (set-calm g (record { id = p; phase = Regular conf; delivered = 0; unordered = [] }) calm tt)

-- the configuration that is made has no message
made-calm : (list : List (Configuration Msg)) (c : Configuration Msg) (conf : ℕ) → CalmConfiguration c → CalmConfiguration (option_map_or (λ c. c) (at_place list conf) no_configuration) →
    CalmConfiguration (option_map_or (λ c. c) (at_place (list ++ c ∷ []) conf) no_configuration)
made-calm list c zero new old = tt
made-calm [] c (suc zero) new old = new
made-calm [] c (suc (suc n)) new old = tt
made-calm (d ∷ list) c (suc zero) new old = old
made-calm (d ∷ list) c (suc (suc n)) new old = made-calm list c (suc n) new old

pub merge-calm : (g : Group) (set : List ℕ) → CalmGroup g → CalmGroup (merge g set).group × Each CalmHanded (merge g set).handed
unfolding merge configuration standing_of
merge-calm g set calm =
    let c : Configuration Msg = record { members = set; ordered = []; received = [] } in (
      joined-calm (next_conf g) set (record g { configurations = g.configurations ++ c ∷ [] })
          (record { ordered = λ conf. made-calm g.configurations c conf tt (calm.ordered conf); waiting = calm.waiting }),
      Each-map (λ p. _) CalmHanded set (Each-all (λ p. _) (λ p. (tt, tt)) set),
    )
