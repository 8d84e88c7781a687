-- Each event is read as its parts are spelled.
use Rattle.std.proofs.Common.{◌≡◌, ℕ, ◌^◌, ◌<◌, Bool, true, false, cond, List, [], ◌∷◌, ◌++◌, Result, Ok, Err, refl, ◌∙◌, arith, codes}
use Rattle.std.specs.Prelude.{decimal, map}
use Rattle.cg_base.specs.declared.weighted.Weighted.{Weighted}
use Rattle.cg_base.specs.Sets.{IsSet}
use Rattle.cg_base.specs.Weights.{IsWeightSet}
use Rattle.cg_text.specs.Order.{same_text}
use Rattle.cg_action.specs.declared.query.Query.{Query}
use Rattle.cg_schedule.specs.declared.fault.LineFault.{LineFault}
use Rattle.cg_schedule.specs.declared.event.Event.{Event}
use Rattle.cg_schedule.specs.declared.event.Event.TheVariants as event
use Rattle.cg_schedule.specs.declared.word.Word.{Word}
use Rattle.cg_schedule.specs.declared.word.Word.TheVariants.{Start, Split, Merge, Request, Weak, Dirty, Order, Recover, Downgrade, Show, Gather, End, Receive, Deliver, Rounds, Stop, Fail, Join, Leave, Transfer}
use Rattle.cg_schedule.specs.Reading.{Reading, ◌>>=◌, done, lifted, ended, whole}
use Rattle.cg_schedule.specs.Part.{number, weighted, fill, number_part, id_part, count_part, weighted_part, fill_part}
use Rattle.cg_schedule.specs.Command.{Update, query_reading, update_reading}
use Rattle.cg_schedule.specs.Line.{event_word, ids, weights, start_reading, split_reading, merge_reading, request_reading, weak_reading, dirty_reading, order_reading, recover_stopped_reading, recovery_of, recover_reading, downgrade_reading, shown, show_reading, receive_reading, deliver_reading, rounds_reading, stop_reading, fail_reading, join_reading, leave_reading, transfer_reading, event_reading}
use Rattle.cg_schedule.specs.Print.{fill_text}
use Rattle.cg_schedule.specs.Limits.{IsWithin, IsCount, IsMember, IsFill, IsQuery, IsUpdate, IsEvent}
use Rattle.cg_schedule.specs.PartLaws.{Anything, Nothing, IsPart, Makes, given, go_on-ok, lifted-ok, ended-ok, part-token, made, bound, whole-again, whole-found}
use Rattle.cg_schedule.proofs.TokenParts.{TextFacts, number_token}
use Rattle.cg_schedule.proofs.MemberParts.{weighted_token}
use Rattle.cg_schedule.proofs.FillParts.{fill_token}
use Rattle.cg_schedule.proofs.CommandParts.{query_tokens, query_is}
use Rattle.cg_schedule.proofs.UpdateParts.{update_tokens, update_is}
use Rattle.cg_schedule.proofs.SetParts.{member_text, ids_is, weights_is}
use Rattle.cg_text.specs.OrderLaws.{same_text-is}

-- ---- parts of one token

number_is : TextFacts → (low high : ℕ) → high < 2 ^ 64 → IsPart Anything (IsWithin low high) (λ n. decimal n ∷ []) (number_part low high)
unfolding number_part
number_is facts low high small = part-token (IsWithin low high) decimal (number low high) (number_token facts low high small)

id_is : TextFacts → IsPart Anything (IsWithin 1 32) (λ n. decimal n ∷ []) id_part
unfolding id_part
id_is facts = part-token (IsWithin 1 32) decimal (number 1 32) (number_token facts 1 32 (omega arith))

count_is : TextFacts → IsPart Anything IsCount (λ n. decimal n ∷ []) count_part
unfolding count_part
count_is facts = part-token IsCount decimal (number 1 1000000) (number_token facts 1 1000000 (omega arith))

member_is : TextFacts → IsPart Anything IsMember (λ m. member_text m ∷ []) weighted_part
unfolding weighted_part
member_is facts = part-token IsMember member_text weighted (weighted_token facts)

fill_is : IsPart Anything IsFill (λ b. fill_text b ∷ []) fill_part
unfolding fill_part
fill_is = part-token IsFill fill_text fill fill_token

-- ---- shapes

-- a replica, and one part more
behind_id : TextFacts → {X : Type 0} (Ends : List (List ℕ) → Type 0) (Has : X → Type 0) (spelled : X → List (List ℕ)) (into : ℕ → X → Event) (reading : Reading X) → IsPart Ends Has spelled reading
    → Makes Ends (λ (x : ℕ × X). IsWithin 1 32 x.0 × Has x.1) (λ (x : ℕ × X). (decimal x.0 ∷ []) ++ spelled x.1) (λ (x : ℕ × X). into x.0 x.1) (id_part >>= λ p. reading >>= λ x. done (into p x))
behind_id facts {X} Ends Has spelled into reading is_part =
    bound Ends (IsWithin 1 32) (λ n. decimal n ∷ []) id_part Has spelled into (λ p. reading >>= λ x. done (into p x)) (id_is facts) (λ p. made Ends Has spelled (into p) reading is_part)

-- a replica, and two parts more
behind_id_two : TextFacts → {X Y : Type 0} (HasX : X → Type 0) (first : X → List (List ℕ)) (readingX : Reading X) (HasY : Y → Type 0) (second : Y → List (List ℕ)) (readingY : Reading Y) (into : ℕ → X → Y → Event) → IsPart Anything HasX first readingX → IsPart Anything HasY second readingY
    → Makes Anything (λ (x : ℕ × (X × Y)). IsWithin 1 32 x.0 × (HasX x.1.0 × HasY x.1.1)) (λ (x : ℕ × (X × Y)). (decimal x.0 ∷ []) ++ (first x.1.0 ++ second x.1.1)) (λ (x : ℕ × (X × Y)). into x.0 x.1.0 x.1.1) (id_part >>= λ p. readingX >>= λ x. readingY >>= λ y. done (into p x y))
behind_id_two facts {X} {Y} HasX first readingX HasY second readingY into is_x is_y =
    bound Anything (IsWithin 1 32) (λ n. decimal n ∷ []) id_part (λ (x : X × Y). HasX x.0 × HasY x.1) (λ (x : X × Y). first x.0 ++ second x.1) (λ p (x : X × Y). into p x.0 x.1) (λ p. readingX >>= λ x. readingY >>= λ y. done (into p x y)) (id_is facts)
    (λ p. bound Anything HasX first readingX HasY second (λ x y. into p x y) (λ x. readingY >>= λ y. done (into p x y)) is_x (λ x. made Anything HasY second (into p x) readingY is_y))

-- ---- the parts of each event

unfoldable pub event_parts : Event → List (List ℕ)
event_parts (event.Start set) = map member_text set
event_parts (event.Split set) = map decimal set
event_parts (event.Merge set) = map decimal set
event_parts (event.Request p cmds query) = decimal p ∷ update_tokens cmds query
event_parts (event.Weak p query) = decimal p ∷ query_tokens query
event_parts (event.Dirty p query) = decimal p ∷ query_tokens query
event_parts (event.Order p) = decimal p ∷ []
event_parts (event.Recover p) = decimal p ∷ []
event_parts (event.RecoverStopped p call fill) = decimal p ∷ decimal call ∷ fill_text fill ∷ []
event_parts (event.Downgrade p) = decimal p ∷ []
event_parts (event.Show p) = decimal p ∷ []
event_parts event.ShowOrder = codes "order" ∷ []
event_parts event.Gather = []
event_parts event.End = []
event_parts (event.Receive p place) = decimal p ∷ decimal place ∷ []
event_parts (event.Deliver p count) = decimal p ∷ decimal count ∷ []
event_parts (event.Rounds count) = decimal count ∷ []
event_parts (event.Stop p call fill) = decimal p ∷ decimal call ∷ fill_text fill ∷ []
event_parts (event.Fail p call) = decimal p ∷ decimal call ∷ []
event_parts (event.Join p joiner weight) = decimal p ∷ member_text (record { id = joiner; weight = weight }) ∷ []
event_parts (event.Leave p server) = decimal p ∷ decimal server ∷ []
event_parts (event.Transfer p joiner pieces) = decimal p ∷ decimal joiner ∷ decimal pieces ∷ []

start_makes : TextFacts → Makes Nothing IsWeightSet (λ (s : List Weighted). map member_text s) (λ s. event.Start s) start_reading
unfolding start_reading
start_makes facts = made Nothing IsWeightSet (λ (s : List Weighted). map member_text s) (λ s. event.Start s) (weights 0 []) (weights_is facts)

split_makes : TextFacts → Makes Nothing IsSet (λ (s : List ℕ). map decimal s) (λ s. event.Split s) split_reading
unfolding split_reading
split_makes facts = made Nothing IsSet (λ (s : List ℕ). map decimal s) (λ s. event.Split s) (ids 0 []) (ids_is facts)

merge_makes : TextFacts → Makes Nothing IsSet (λ (s : List ℕ). map decimal s) (λ s. event.Merge s) merge_reading
unfolding merge_reading
merge_makes facts = made Nothing IsSet (λ (s : List ℕ). map decimal s) (λ s. event.Merge s) (ids 0 []) (ids_is facts)

request_makes : TextFacts → Makes Nothing (λ (x : ℕ × Update). IsWithin 1 32 x.0 × IsUpdate x.1.0 x.1.1) (λ (x : ℕ × Update). (decimal x.0 ∷ []) ++ update_tokens x.1.0 x.1.1) (λ (x : ℕ × Update). event.Request x.0 x.1.0 x.1.1) request_reading
unfolding request_reading
request_makes facts = behind_id facts Nothing (λ (u : Update). IsUpdate u.0 u.1) (λ (u : Update). update_tokens u.0 u.1) (λ p u. event.Request p u.0 u.1) update_reading (update_is facts)

weak_makes : TextFacts → Makes Anything (λ (x : ℕ × Query). IsWithin 1 32 x.0 × IsQuery x.1) (λ (x : ℕ × Query). (decimal x.0 ∷ []) ++ query_tokens x.1) (λ (x : ℕ × Query). event.Weak x.0 x.1) weak_reading
unfolding weak_reading
weak_makes facts = behind_id facts Anything IsQuery query_tokens (λ p q. event.Weak p q) query_reading (query_is facts)

dirty_makes : TextFacts → Makes Anything (λ (x : ℕ × Query). IsWithin 1 32 x.0 × IsQuery x.1) (λ (x : ℕ × Query). (decimal x.0 ∷ []) ++ query_tokens x.1) (λ (x : ℕ × Query). event.Dirty x.0 x.1) dirty_reading
unfolding dirty_reading
dirty_makes facts = behind_id facts Anything IsQuery query_tokens (λ p q. event.Dirty p q) query_reading (query_is facts)

order_makes : TextFacts → Makes Anything (IsWithin 1 32) (λ p. decimal p ∷ []) (λ p. event.Order p) order_reading
unfolding order_reading
order_makes facts = made Anything (IsWithin 1 32) (λ p. decimal p ∷ []) (λ p. event.Order p) id_part (id_is facts)

downgrade_makes : TextFacts → Makes Anything (IsWithin 1 32) (λ p. decimal p ∷ []) (λ p. event.Downgrade p) downgrade_reading
unfolding downgrade_reading
downgrade_makes facts = made Anything (IsWithin 1 32) (λ p. decimal p ∷ []) (λ p. event.Downgrade p) id_part (id_is facts)

abbrev Numbered : (ℕ → Type 0) → (ℕ → ℕ → Event) → Reading Event → Type 0
Numbered Has into reading = Makes Anything (λ (x : ℕ × ℕ). IsWithin 1 32 x.0 × Has x.1) (λ (x : ℕ × ℕ). (decimal x.0 ∷ []) ++ (decimal x.1 ∷ [])) (λ (x : ℕ × ℕ). into x.0 x.1) reading

receive_makes : TextFacts → Numbered IsCount (λ p n. event.Receive p n) receive_reading
unfolding receive_reading
receive_makes facts = behind_id facts Anything IsCount (λ n. decimal n ∷ []) (λ p n. event.Receive p n) count_part (count_is facts)

deliver_makes : TextFacts → Numbered IsCount (λ p n. event.Deliver p n) deliver_reading
unfolding deliver_reading
deliver_makes facts = behind_id facts Anything IsCount (λ n. decimal n ∷ []) (λ p n. event.Deliver p n) count_part (count_is facts)

fail_makes : TextFacts → Numbered IsCount (λ p n. event.Fail p n) fail_reading
unfolding fail_reading
fail_makes facts = behind_id facts Anything IsCount (λ n. decimal n ∷ []) (λ p n. event.Fail p n) count_part (count_is facts)

leave_makes : TextFacts → Numbered (IsWithin 1 32) (λ p n. event.Leave p n) leave_reading
unfolding leave_reading
leave_makes facts = behind_id facts Anything (IsWithin 1 32) (λ n. decimal n ∷ []) (λ p n. event.Leave p n) id_part (id_is facts)

rounds_makes : TextFacts → Makes Anything IsCount (λ n. decimal n ∷ []) (λ n. event.Rounds n) rounds_reading
unfolding rounds_reading
rounds_makes facts = made Anything IsCount (λ n. decimal n ∷ []) (λ n. event.Rounds n) count_part (count_is facts)

join_makes : TextFacts → Makes Anything (λ (x : ℕ × Weighted). IsWithin 1 32 x.0 × IsMember x.1) (λ (x : ℕ × Weighted). (decimal x.0 ∷ []) ++ (member_text x.1 ∷ [])) (λ (x : ℕ × Weighted). event.Join x.0 x.1.id x.1.weight) join_reading
unfolding join_reading
join_makes facts = behind_id facts Anything IsMember (λ m. member_text m ∷ []) (λ p m. event.Join p m.id m.weight) weighted_part (member_is facts)

stop_makes : TextFacts → Makes Anything (λ (x : ℕ × (ℕ × List ℕ)). IsWithin 1 32 x.0 × (IsWithin 0 1000000 x.1.0 × IsFill x.1.1)) (λ (x : ℕ × (ℕ × List ℕ)). (decimal x.0 ∷ []) ++ ((decimal x.1.0 ∷ []) ++ (fill_text x.1.1 ∷ []))) (λ (x : ℕ × (ℕ × List ℕ)). event.Stop x.0 x.1.0 x.1.1) stop_reading
unfolding stop_reading
stop_makes facts = behind_id_two facts (IsWithin 0 1000000) (λ n. decimal n ∷ []) (number_part 0 1000000) IsFill (λ b. fill_text b ∷ []) fill_part (λ p n b. event.Stop p n b) (number_is facts 0 1000000 (omega arith)) fill_is

transfer_makes : TextFacts → Makes Anything (λ (x : ℕ × (ℕ × ℕ)). IsWithin 1 32 x.0 × (IsWithin 1 32 x.1.0 × IsCount x.1.1)) (λ (x : ℕ × (ℕ × ℕ)). (decimal x.0 ∷ []) ++ ((decimal x.1.0 ∷ []) ++ (decimal x.1.1 ∷ []))) (λ (x : ℕ × (ℕ × ℕ)). event.Transfer x.0 x.1.0 x.1.1) transfer_reading
unfolding transfer_reading
transfer_makes facts = behind_id_two facts (IsWithin 1 32) (λ n. decimal n ∷ []) id_part IsCount (λ n. decimal n ∷ []) count_part (λ p j k. event.Transfer p j k) (id_is facts) (count_is facts)

-- ---- show

-- an identifier isn't the word order
no_order : (token : List ℕ) (p : ℕ) → number 1 32 token ≡ Ok p → (b : Bool) → same_text token (codes "order") ≡ b → b ≡ false
unfolding number
no_order token p e false same = refl
no_order token p e true same = absurd (refused (rw (same_text-is token (codes "order") same) at e)) where
  refused : number 1 32 (codes "order") ≡ Ok p → ⊥
  refused f = cc

show_again : TextFacts → (p : ℕ) → IsWithin 1 32 p → whole show_reading (decimal p ∷ []) ≡ Ok (event.Show p)
unfolding show_reading
show_again facts p has =
    let read = (number_token facts 1 32 (omega arith)).again p has in
    rw (no_order (decimal p) p read (same_text (decimal p) (codes "order")) refl, read) refl

show_order_again : whole show_reading (codes "order" ∷ []) ≡ Ok event.ShowOrder
unfolding show_reading
show_order_again = refl

shown-ok : (r : Result ℕ LineFault) (e : Event) → shown r ≡ Ok e → (p : ℕ) × (r ≡ Ok p) × (event.Show p ≡ e)
shown-ok (Ok p) e f = (p, refl, cc)
shown-ok (Err fault) e f = absurd cc

abbrev pub EventFound : Word → List (List ℕ) → Event → Type 0
EventFound word ts e = IsEvent e × (event_word e ≡ word) × (ts ≡ event_parts e)

order_found : (token : List ℕ) (left : List (List ℕ)) (e : Event) → token ≡ codes "order" → ended (done event.ShowOrder left) ≡ Ok e → EventFound Show (token ∷ left) e
unfolding event_parts
order_found token left e is f =
    let g = given event.ShowOrder e left [] (ended-ok (done event.ShowOrder left) e f) in
    rw (is, ← g.0, g.1) (tt, refl, refl)

replica_is : (token : List ℕ) (left : List (List ℕ)) (e : Event) (p : ℕ) → IsWithin 1 32 p → token ≡ decimal p → left ≡ [] → event.Show p ≡ e → EventFound Show (token ∷ left) e
unfolding event_parts
replica_is token left e p has is none same = rw (is, none, ← same) (has, refl, refl)

replica_found : TextFacts → (token : List ℕ) (left : List (List ℕ)) (e : Event) → ended (lifted (shown (number 1 32 token)) left) ≡ Ok e → EventFound Show (token ∷ left) e
unfolding event_parts
replica_found facts token left e f =
    let g = lifted-ok (shown (number 1 32 token)) left e [] (ended-ok (lifted (shown (number 1 32 token)) left) e f) in
    let s = shown-ok (number 1 32 token) e g.0 in
    let n = (number_token facts 1 32 (omega arith)).found s.0 token s.1 in
    replica_is token left e s.0 n.0 n.1 g.1 s.2

show_found : TextFacts → (ts : List (List ℕ)) (e : Event) → whole show_reading ts ≡ Ok e → EventFound Show ts e
unfolding show_reading
show_found facts [] e f = absurd cc
show_found facts (token ∷ left) e f = by_word (same_text token (codes "order")) refl f where
  by_word : (b : Bool) → same_text token (codes "order") ≡ b → ended ((cond b (done event.ShowOrder) (lifted (shown (number 1 32 token)))) left) ≡ Ok e → EventFound Show (token ∷ left) e
  by_word true same g = order_found token left e (same_text-is token (codes "order") same) g
  by_word false same g = replica_found facts token left e g

-- ---- recover

-- what stands behind the replica of a recovery that is stopped
stopped_makes : TextFacts → (p : ℕ) → Makes Anything (λ (x : ℕ × List ℕ). IsCount x.0 × IsFill x.1) (λ (x : ℕ × List ℕ). (decimal x.0 ∷ []) ++ (fill_text x.1 ∷ [])) (λ (x : ℕ × List ℕ). event.RecoverStopped p x.0 x.1) (recover_stopped_reading p)
unfolding recover_stopped_reading
stopped_makes facts p =
    bound Anything IsCount (λ n. decimal n ∷ []) count_part IsFill (λ b. fill_text b ∷ []) (λ n b. event.RecoverStopped p n b) (λ n. fill_part >>= λ b. done (event.RecoverStopped p n b)) (count_is facts)
    (λ n. made Anything IsFill (λ b. fill_text b ∷ []) (λ b. event.RecoverStopped p n b) fill_part fill_is)

recover_again : TextFacts → (p : ℕ) → IsWithin 1 32 p → whole recover_reading (decimal p ∷ []) ≡ Ok (event.Recover p)
unfolding recover_reading
recover_again facts p has = rw ((id_is facts).again p [] tt has) refl

stopped_again : TextFacts → (p call : ℕ) (fill : List ℕ) → IsWithin 1 32 p → IsCount call → IsFill fill → whole recover_reading (decimal p ∷ decimal call ∷ fill_text fill ∷ []) ≡ Ok (event.RecoverStopped p call fill)
unfolding recover_reading
stopped_again facts p call fill has counts fills =
    let rest = whole-again Anything _ _ _ _ (stopped_makes facts p) (call, fill) tt (counts, fills) in
    rw ((id_is facts).again p (decimal call ∷ fill_text fill ∷ []) tt has) rest

stopped_is : (p : ℕ) (left : List (List ℕ)) (e : Event) (call : ℕ) (fill : List ℕ) → IsWithin 1 32 p → IsCount call × IsFill fill → left ≡ decimal call ∷ fill_text fill ∷ [] → event.RecoverStopped p call fill ≡ e → EventFound Recover (decimal p ∷ left) e
unfolding event_parts
stopped_is p left e call fill has parts is same = rw (is, ← same) ((has, parts), refl, refl)

-- a recovery, from what is left behind its replica
recovery_found : TextFacts → (p : ℕ) → IsWithin 1 32 p → (left : List (List ℕ)) (e : Event) → recovery_of p left ≡ Ok (e, []) → EventFound Recover (decimal p ∷ left) e
unfolding event_parts
recovery_found facts p has [] e f =
    let g = given (event.Recover p) e [] [] f in
    rw (← g.0) (has, refl, refl)
recovery_found facts p has (token ∷ left) e f =
    let g = (stopped_makes facts p).found e (token ∷ left) [] f in
    stopped_is p (token ∷ left) e g.from.0 g.from.1 has g.has g.tokens g.is

recover_found : TextFacts → (ts : List (List ℕ)) (e : Event) → whole recover_reading ts ≡ Ok e → EventFound Recover ts e
unfolding recover_reading
recover_found facts ts e f =
    let step = go_on-ok (id_part ts) recovery_of e [] (ended-ok (recover_reading ts) e f) in
    let g = (id_is facts).found step.0 ts step.1 step.2 in
    let found = recovery_found facts g.from g.has step.1 e (rw g.is step.3) in
    rw g.tokens found

-- ---- every event

-- an event that its parts make
concluded : {X : Type 0} (Ends : List (List ℕ) → Type 0) (Has : X → Type 0) (spelled : X → List (List ℕ)) (into : X → Event) (reading : Reading Event) → Makes Ends Has spelled into reading → (word : Word)
    → ((x : X) → Has x → EventFound word (spelled x) (into x)) → (ts : List (List ℕ)) (e : Event) → whole reading ts ≡ Ok e → EventFound word ts e
concluded Ends Has spelled into reading makes word known ts e f =
    let g = whole-found Ends Has spelled into reading makes e ts f in
    let k = known g.0 g.2 in
    rw (← g.1) (k.0, k.1, g.3 ∙ k.2)

alone_found : (word : Word) (is : Event) (ts : List (List ℕ)) (e : Event) → EventFound word [] is → ended (done is ts) ≡ Ok e → EventFound word ts e
alone_found word is ts e known f =
    let g = given is e ts [] (ended-ok (done is ts) e f) in
    rw (← g.0, g.1) known

pub event_found : TextFacts → (word : Word) (ts : List (List ℕ)) (e : Event) → whole (event_reading word) ts ≡ Ok e → EventFound word ts e
unfolding event_reading event_parts
event_found facts Start ts e f = concluded Nothing _ _ _ _ (start_makes facts) Start (λ x has. (has, refl, refl)) ts e f
event_found facts Split ts e f = concluded Nothing _ _ _ _ (split_makes facts) Split (λ x has. (has, refl, refl)) ts e f
event_found facts Merge ts e f = concluded Nothing _ _ _ _ (merge_makes facts) Merge (λ x has. (has, refl, refl)) ts e f
event_found facts Request ts e f = concluded Nothing _ _ _ _ (request_makes facts) Request (λ x has. (has, refl, refl)) ts e f
event_found facts Weak ts e f = concluded Anything _ _ _ _ (weak_makes facts) Weak (λ x has. (has, refl, refl)) ts e f
event_found facts Dirty ts e f = concluded Anything _ _ _ _ (dirty_makes facts) Dirty (λ x has. (has, refl, refl)) ts e f
event_found facts Order ts e f = concluded Anything _ _ _ _ (order_makes facts) Order (λ x has. (has, refl, refl)) ts e f
event_found facts Recover ts e f = recover_found facts ts e f
event_found facts Downgrade ts e f = concluded Anything _ _ _ _ (downgrade_makes facts) Downgrade (λ x has. (has, refl, refl)) ts e f
event_found facts Show ts e f = show_found facts ts e f
event_found facts Gather ts e f = alone_found Gather event.Gather ts e (tt, refl, refl) f
event_found facts End ts e f = alone_found End event.End ts e (tt, refl, refl) f
event_found facts Receive ts e f = concluded Anything _ _ _ _ (receive_makes facts) Receive (λ x has. (has, refl, refl)) ts e f
event_found facts Deliver ts e f = concluded Anything _ _ _ _ (deliver_makes facts) Deliver (λ x has. (has, refl, refl)) ts e f
event_found facts Rounds ts e f = concluded Anything _ _ _ _ (rounds_makes facts) Rounds (λ x has. (has, refl, refl)) ts e f
event_found facts Stop ts e f = concluded Anything _ _ _ _ (stop_makes facts) Stop (λ x has. (has, refl, refl)) ts e f
event_found facts Fail ts e f = concluded Anything _ _ _ _ (fail_makes facts) Fail (λ x has. (has, refl, refl)) ts e f
event_found facts Join ts e f = concluded Anything _ _ _ _ (join_makes facts) Join (λ x has. ((has.0, (has.1.0, has.1.1)), refl, refl)) ts e f
event_found facts Leave ts e f = concluded Anything _ _ _ _ (leave_makes facts) Leave (λ x has. (has, refl, refl)) ts e f
event_found facts Transfer ts e f = concluded Anything _ _ _ _ (transfer_makes facts) Transfer (λ x has. (has, refl, refl)) ts e f

pub event_again : TextFacts → (e : Event) → IsEvent e → whole (event_reading (event_word e)) (event_parts e) ≡ Ok e
unfolding event_reading event_parts
event_again facts (event.Start set) has = whole-again Nothing _ _ _ _ (start_makes facts) set refl has
event_again facts (event.Split set) has = whole-again Nothing _ _ _ _ (split_makes facts) set refl has
event_again facts (event.Merge set) has = whole-again Nothing _ _ _ _ (merge_makes facts) set refl has
event_again facts (event.Request p cmds query) has = whole-again Nothing _ _ _ _ (request_makes facts) (p, (cmds, query)) refl has
event_again facts (event.Weak p query) has = whole-again Anything _ _ _ _ (weak_makes facts) (p, query) tt has
event_again facts (event.Dirty p query) has = whole-again Anything _ _ _ _ (dirty_makes facts) (p, query) tt has
event_again facts (event.Order p) has = whole-again Anything _ _ _ _ (order_makes facts) p tt has
event_again facts (event.Recover p) has = recover_again facts p has
event_again facts (event.RecoverStopped p call fill) has = stopped_again facts p call fill has.0 has.1.0 has.1.1
event_again facts (event.Downgrade p) has = whole-again Anything _ _ _ _ (downgrade_makes facts) p tt has
event_again facts (event.Show p) has = show_again facts p has
event_again facts event.ShowOrder has = show_order_again
event_again facts event.Gather has = refl
event_again facts event.End has = refl
event_again facts (event.Receive p place) has = whole-again Anything _ _ _ _ (receive_makes facts) (p, place) tt has
event_again facts (event.Deliver p count) has = whole-again Anything _ _ _ _ (deliver_makes facts) (p, count) tt has
event_again facts (event.Rounds count) has = whole-again Anything _ _ _ _ (rounds_makes facts) count tt has
event_again facts (event.Stop p call fill) has = whole-again Anything _ _ _ _ (stop_makes facts) (p, (call, fill)) tt has
event_again facts (event.Fail p call) has = whole-again Anything _ _ _ _ (fail_makes facts) (p, call) tt has
event_again facts (event.Join p joiner weight) has = whole-again Anything _ _ _ _ (join_makes facts) (p, record { id = joiner; weight = weight }) tt (has.0, (has.1.0, has.1.1))
event_again facts (event.Leave p server) has = whole-again Anything _ _ _ _ (leave_makes facts) (p, server) tt has
event_again facts (event.Transfer p joiner pieces) has = whole-again Anything _ _ _ _ (transfer_makes facts) (p, (joiner, pieces)) tt has
