-- The step of a transfer is made of small steps: a snapshot is taken where none is under way, and its joiner begins with the last piece.
use Rattle.std.proofs.Common.{◌≡◌, ℕ, suc, ◌+◌, ◌-◌, ◌≤◌, ◌<◌, Bool, true, false, cond, not, ◌&&◌, List, [], ◌∷◌, ◌++◌, Option, Some, None, map, filter, find, length, refl, sym, ap, ap₂, ◌∙◌, ⊎_elim, eqb-true, eq-eqb, subst, is_some, is_none, min, nat_le, arith, append-nil, inl, inr, if◌then◌else◌}
use Rattle.std.specs.Prelude.{◌==◌}
use Rattle.std.specs.Option.{option_map_or}
use Rattle.std.proofs.lemmas.Bool.{cases_Bool, cases_eq, cond-true, cond-false, ne_eqb, leb-true, leb-false, and_from}
use Rattle.std.proofs.lemmas.List.Elements.{filter-append}
use Rattle.std.proofs.lemmas.Option.{same_Some}
use Rattle.cg_base.specs.FindLaws.{found_passes}
use Rattle.cg_members.specs.Servers.{is_server}
use Rattle.cg_group.specs.declared.reason.Reason.TheVariants.{JoinNotGreen}
use Rattle.cg_client.specs.Replica.{Replica}
use Rattle.cg_disk_records.specs.Crash.{new_disk}
use Rattle.cg_schedule.specs.declared.event.Event.TheVariants.{Transfer}
use Rattle.cg_model.specs.World.{Node, TransferState, World, has_begun, node_of, replica_of, bring_up}
use Rattle.cg_model.specs.Admission.{first_refusal, takes_part, never_named, joiner_left, not_green}
use Rattle.cg_model.specs.AdmissionCalls.{begun_already}
use Rattle.cg_model.specs.Show.{StepInProgress, ended}
use Rattle.cg_model.specs.Step.{happens, world_step, quietly, joiner_replica, snapshot_for, without_snapshot, transfer}
use Rattle.cg_model.specs.AtNode.{with_pieces, take_pieces}
use Rattle.cg_model.specs.Looks.{snapshot_of, snapshots_for, disk_held}
use Rattle.cg_model.specs.Small.{Small, Copies, Joins}
use Rattle.cg_model.specs.Smalls.{may_make, smalls_in, copy_steps, join_steps}
use Rattle.cg_model.specs.FactsLists.{AreForServers}
use Rattle.cg_model.specs.Played.{IsSame, GivenSnapshot}
use Rattle.cg_agree_lemmas.specs.UnorderedKept.{first-none, refused-not}
use Rattle.cg_agree_lemmas.specs.MadeQuietly.{IsMadeIn, same-worlds}
use Rattle.cg_agree_lemmas.specs.MadeAlone.{is-running}
use Rattle.cg_agree_lemmas.specs.SmallWorlds.{small_in, may_in, copy_in, join_in, played_in, MayIn}
use Rattle.cg_client.specs.Joined.{piece_count}
use Rattle.cg_group.specs.RefusalLaws.{refuse_none}

-- ---- lists

module _ {X : Type 0} (t u : X → Bool) where
  -- what isn't found isn't found with more
  pub neither : (xs : List X) → find t xs ≡ None → find (λ x. t x && u x) xs ≡ None
  neither [] e = refl
  neither (x ∷ xs) e = ⊎_elim
      (λ y. absurd (let clash : Some x ≡ None = sym (cond-true (t x) (Some x) (find t xs) y) ∙ e in cc))
      (λ n. rw n (neither xs (sym (cond-false (t x) (Some x) (find t xs) n) ∙ e)))
      (cases_Bool (t x))

  pub none-filtered : (xs : List X) → filter t xs ≡ [] → find t xs ≡ None
  none-filtered [] e = refl
  none-filtered (x ∷ xs) e = ⊎_elim
      (λ y. absurd (let clash : x ∷ filter t xs ≡ [] = sym (cond-true (t x) (x ∷ filter t xs) (filter t xs) y) ∙ e in cc))
      (λ n. rw n (none-filtered xs (sym (cond-false (t x) (x ∷ filter t xs) (filter t xs) n) ∙ e)))
      (cases_Bool (t x))

  pub nothing-of : (xs : List X) → suc (length xs) ≤ 1 → xs ≡ []
  nothing-of [] le = refl
  nothing-of (x ∷ xs) le = absurd (let more : suc (suc (length xs)) ≤ 1 = le in omega arith)

  -- the only one that is found
  pub only-one : (xs : List X) (s : X) → find t xs ≡ Some s → length (filter t xs) ≤ 1 → filter t xs ≡ s ∷ []
  only-one [] s e le = absurd (let clash : None ≡ Some s = e in cc)
  only-one (x ∷ xs) s e le = ⊎_elim
      (λ y. (let all = cond-true (t x) (x ∷ filter t xs) (filter t xs) y in
      let rest = nothing-of (filter t xs) (subst (λ list. length list ≤ 1) all le) in
      all ∙ ap₂ (λ z zs. z ∷ zs) (same_Some x s (sym (cond-true (t x) (Some x) (find t xs) y) ∙ e)) rest))
      (λ n. (let all = cond-false (t x) (x ∷ filter t xs) (filter t xs) n in
      all ∙ only-one xs s (sym (cond-false (t x) (Some x) (find t xs) n) ∙ e) (subst (λ list. length list ≤ 1) all le)))
      (cases_Bool (t x))

  -- where there is only one, it is the one that is found with more
  pub only-both : (xs : List X) (s : X) → find t xs ≡ Some s → length (filter t xs) ≤ 1 → find (λ x. t x && u x) xs ≡ cond (u s) (Some s) None
  only-both [] s e le = absurd (let clash : None ≡ Some s = e in cc)
  only-both (x ∷ xs) s e le = ⊎_elim
      (λ y. (let all = cond-true (t x) (x ∷ filter t xs) (filter t xs) y in
      let rest = neither xs (none-filtered xs (nothing-of (filter t xs) (subst (λ list. length list ≤ 1) all le))) in
      let here : x ≡ s = same_Some x s (sym (cond-true (t x) (Some x) (find t xs) y) ∙ e) in
      ap (λ b. cond (b && u x) (Some x) (find (λ x. t x && u x) xs)) y ∙ ap (λ o. cond (u x) (Some x) o) rest ∙ ap (λ z. cond (u z) (Some z) None) here))
      (λ n. ap (λ b. cond (b && u x) (Some x) (find (λ x. t x && u x) xs)) n
      ∙ only-both xs s (sym (cond-false (t x) (Some x) (find t xs) n) ∙ e) (subst (λ list. length list ≤ 1) (cond-false (t x) (x ∷ filter t xs) (filter t xs) n) le))
      (cases_Bool (t x))

module _ {X : Type 0} (key : X → ℕ) (j : ℕ) where
  abbrev others : List X → List X
  others xs = filter (λ x. not (key x == j)) xs

  pub others-twice : (xs : List X) → others (others xs) ≡ others xs
  others-twice [] = refl
  others-twice (x ∷ xs) = elim (cases_eq (key x) j) [
    | inl same ↦ rw (eq-eqb (key x) j same) (others-twice xs)
    | inr other ↦ rw (ne_eqb (key x) j other, ne_eqb (key x) j other) (ap (λ zs. x ∷ zs) (others-twice xs))
  ]

  pub others-none : (xs : List X) → filter (λ x. key x == j) (others xs) ≡ []
  others-none [] = refl
  others-none (x ∷ xs) = elim (cases_eq (key x) j) [
    | inl same ↦ rw (eq-eqb (key x) j same) (others-none xs)
    | inr other ↦ rw (ne_eqb (key x) j other, ne_eqb (key x) j other) (others-none xs)
  ]

  pub others-other : (k : ℕ) → (k ≡ j → ⊥) → (xs : List X) → filter (λ x. key x == k) (others xs) ≡ filter (λ x. key x == k) xs
  others-other k apart [] = refl
  others-other k apart (x ∷ xs) = elim (cases_eq (key x) j) [
    | inl same ↦ rw (eq-eqb (key x) j same, ne_eqb (key x) k (λ e. apart (sym e ∙ same))) (others-other k apart xs)
    | inr other ↦ rw (ne_eqb (key x) j other) (ap (λ zs. cond (key x == k) (x ∷ zs) zs) (others-other k apart xs))
  ]

-- the joiner of a snapshot that is found is a server there
pub served-found : (joiner : ℕ) (list : List TransferState) (s : TransferState) → AreForServers list → find (λ s. s.joiner == joiner) list ≡ Some s → is_server s.content.members joiner ≡ true
served-found joiner [] s each e = absurd (let clash : None ≡ Some s = e in cc)
served-found joiner (x ∷ list) s each e = ⊎_elim
    (λ y. (let here : x ≡ s = some-snapshot x s (sym (cond-true (x.joiner == joiner) (Some x) (find (λ s. s.joiner == joiner) list) y) ∙ e) in
    subst (λ (z : TransferState). is_server z.content.members joiner ≡ true) here (ap (is_server x.content.members) (sym (eqb-true x.joiner joiner y)) ∙ each.0)))
    (λ n. served-found joiner list s each.1 (sym (cond-false (x.joiner == joiner) (Some x) (find (λ s. s.joiner == joiner) list) n) ∙ e))
    (cases_Bool (x.joiner == joiner)) where
      some-snapshot : (x y : TransferState) → Some x ≡ Some y → x ≡ y
      some-snapshot x y e = ap (λ o. option_map_or (λ z. z) o x) e

-- ---- the transfer

module _ (w : World) (p joiner pieces : ℕ) (r : Replica) (once : length (snapshots_for w joiner) ≤ 1) (begun : has_begun w joiner ≡ false) where
  abbrev pub taken_of : TransferState → ℕ
  taken_of s = min (piece_count s.content) (s.taken + pieces)

  abbrev pub after : TransferState → World
  after s = with_pieces w s (taken_of s)

  whole-is : (s : TransferState) → nat_le (piece_count s.content - s.taken) pieces ≡ true → (taken_of s == piece_count s.content) ≡ true
  whole-is s y = let le : piece_count s.content - s.taken ≤ pieces = leb-true (piece_count s.content - s.taken) pieces y in eq-eqb (taken_of s) (piece_count s.content) (omega arith)

  part-is : (s : TransferState) → nat_le (piece_count s.content - s.taken) pieces ≡ false → (taken_of s == piece_count s.content) ≡ false
  part-is s n =
      let less : pieces < piece_count s.content - s.taken = leb-false (piece_count s.content - s.taken) pieces n in
      ne_eqb (taken_of s) (piece_count s.content) (λ e. (let same : min (piece_count s.content) (s.taken + pieces) ≡ piece_count s.content = e in omega arith))

  -- the world in which the snapshot is taken; the steps that follow
  pub record IsTaken (v : World) (s : TransferState) : Type 0 where
    pub group : v.group ≡ w.group
    pub nodes : v.nodes ≡ w.nodes
    pub joiner_is : s.joiner ≡ joiner
    pub found : TransferState
    pub there : snapshot_of v joiner ≡ Some found
    pub content : found.content ≡ s.content
    pub served : is_server found.content.members joiner ≡ true
    pub without : filter (λ s. not (s.joiner == joiner)) v.snapshots ≡ filter (λ s. not (s.joiner == joiner)) w.snapshots
    pub own : map (λ s. (let x : GivenSnapshot = record { joiner = s.joiner; giver = s.giver; content = s.content } in x)) (snapshots_for v joiner)
        ≡ record { joiner = s.joiner; giver = s.giver; content = s.content } ∷ []

  abbrev pub ending : TransferState → List Small
  ending s = if nat_le (piece_count s.content - s.taken) pieces then Joins joiner ∷ [] else []

  pub goes-on : (v : World) (s : TransferState) → IsTaken v s → MayIn v (ending s) × IsSame (played_in v (ending s)) (after s)
  unfolding may_make may_in small_in
  goes-on v s is = ⊎_elim whole part (cases_Bool (nat_le (piece_count s.content - s.taken) pieces)) where
    whole : nat_le (piece_count s.content - s.taken) pieces ≡ true → MayIn v (ending s) × IsSame (played_in v (ending s)) (after s)
    whole y =
        let may : (not (is_some (node_of v joiner)) && option_map_or (λ s. is_server s.content.members joiner) (snapshot_of v joiner) false) ≡ true =
        and_from _ _ (ap (λ (list : List Node). not (is_some (find (λ s. s.id == joiner) list))) is.nodes ∙ ap not begun)
        (ap (λ (o : Option TransferState). option_map_or (λ s. is_server s.content.members joiner) o false) is.there ∙ is.served) in
        let joins : option_map_or (λ (x : TransferState). join_in v joiner x.content) (snapshot_of v joiner) v ≡ join_in v joiner s.content =
        ap (λ (o : Option TransferState). option_map_or (λ x. join_in v joiner x.content) o v) is.there ∙ ap (join_in v joiner) is.content in
        let other : World = record w { snapshots = filter (λ s. not (s.joiner == s.joiner)) w.snapshots } in
        let comes : after s ≡ join_in w joiner s.content =
        cond-true (taken_of s == piece_count s.content)
        (let r = joiner_replica s.joiner s.content in bring_up (without_snapshot w s.joiner) r (new_disk r.held))
        (let o = without_snapshot w s.joiner in record o { snapshots = o.snapshots ++ record s { taken = taken_of s } ∷ [] }) (whole-is s y)
        ∙ ap (λ n. join_in w n s.content) is.joiner_is in
        let same : IsSame (join_in v joiner s.content) (join_in w joiner s.content) =
        same-worlds (join_in v joiner s.content) (join_in w joiner s.content) (ap (λ g. (let x = bring_up (record w { group = g }) (joiner_replica joiner s.content) (new_disk (joiner_replica joiner s.content).held) in x.group)) is.group)
        (ap (λ list. (let x = bring_up (record w { nodes = list }) (joiner_replica joiner s.content) (new_disk (joiner_replica joiner s.content).held) in x.nodes)) is.nodes) is.without in
        rw y ((may, tt), subst (λ (x : World). IsSame x (after s)) (sym joins) (subst (IsSame (join_in v joiner s.content)) (sym comes) same))

    part : nat_le (piece_count s.content - s.taken) pieces ≡ false → MayIn v (ending s) × IsSame (played_in v (ending s)) (after s)
    part n =
        let o = without_snapshot w joiner in
        let grown : World = record o { snapshots = o.snapshots ++ record s { taken = taken_of s } ∷ [] } in
        let comes : after s ≡ grown =
        cond-false (taken_of s == piece_count s.content)
        (let r = joiner_replica s.joiner s.content in bring_up (without_snapshot w s.joiner) r (new_disk r.held))
        (let o = without_snapshot w s.joiner in record o { snapshots = o.snapshots ++ record s { taken = taken_of s } ∷ [] }) (part-is s n)
        ∙ ap (λ k. (let o = without_snapshot w k in record o { snapshots = o.snapshots ++ record s { taken = taken_of s } ∷ [] })) is.joiner_is in
        let same : IsSame v grown = record {
          group = is.group;
          nodes = ap (map (λ s. s.id)) is.nodes;
          running = λ p. ap (λ (list : List Node). replica_of (record w { nodes = list }) p) is.nodes;
          disk = λ p. ap (λ (list : List Node). disk_held (record w { nodes = list }) p) is.nodes;
          given = given-same;
        } in
        rw n (tt, subst (IsSame v) (sym comes) same) where
          as_given : TransferState → GivenSnapshot
          as_given s = record { joiner = s.joiner; giver = s.giver; content = s.content }

          last : TransferState
          last = record s { taken = taken_of s }

          given-same : (j : ℕ) → map as_given (filter (λ s. s.joiner == j) v.snapshots)
              ≡ map as_given (filter (λ s. s.joiner == j) (filter (λ s. not (s.joiner == joiner)) w.snapshots ++ last ∷ []))
          given-same j =
              let split = filter-append (λ (s : TransferState). s.joiner == j) (filter (λ s. not (s.joiner == joiner)) w.snapshots) (last ∷ []) in
              ⊎_elim
              (λ same. (let here : (s.joiner == j) ≡ true = eq-eqb s.joiner j (is.joiner_is ∙ sym same) in
              subst (λ n. map as_given (filter (λ s. s.joiner == n) v.snapshots) ≡ as_given s ∷ []) (sym same) is.own
              ∙ sym (ap (map as_given) (split ∙ ap₂ (λ xs ys. xs ++ ys)
              (subst (λ n. filter (λ s. s.joiner == n) (filter (λ s. not (s.joiner == joiner)) w.snapshots) ≡ []) (sym same) (others-none (λ (s : TransferState). s.joiner) joiner w.snapshots))
              (cond-true (s.joiner == j) (last ∷ []) [] here)))))
              (λ apart. (let there : (s.joiner == j) ≡ false = ne_eqb s.joiner j (λ e. apart (sym e ∙ is.joiner_is)) in
              ap (map as_given) (sym (others-other (λ (s : TransferState). s.joiner) joiner j apart v.snapshots) ∙ ap (filter (λ s. s.joiner == j)) is.without
              ∙ sym (append-nil (filter (λ s. s.joiner == j) (filter (λ s. not (s.joiner == joiner)) w.snapshots)))
              ∙ ap (λ ys. filter (λ s. s.joiner == j) (filter (λ s. not (s.joiner == joiner)) w.snapshots) ++ ys) (sym (cond-false (s.joiner == j) (last ∷ []) [] there)) ∙ sym split)))
              (cases_eq j joiner)

module _ (w : World) (p joiner pieces : ℕ) (r : Replica) (is : replica_of w p ≡ Some r) (each : (s : TransferState) → snapshot_of w joiner ≡ Some s → is_server s.content.members joiner ≡ true) (once : length (snapshots_for w joiner) ≤ 1)
    (begun : has_begun w joiner ≡ false) (server : is_server r.held.members joiner ≡ true) where
  abbrev new : TransferState
  new = record { joiner = joiner; giver = p; content = r.held; taken = 0 }

  abbrev both : TransferState → Bool
  both s = (s.joiner == joiner) && (s.giver == p)

  of-own : (s : TransferState) → snapshot_of w joiner ≡ Some s → IsTaken w p joiner pieces r once begun w s
  of-own s there = record {
    group = refl;
    nodes = refl;
    joiner_is = eqb-true s.joiner joiner (found_passes (λ (s : TransferState). s.joiner == joiner) w.snapshots s there);
    found = s;
    there = there;
    content = refl;
    served = each s there;
    without = refl;
    own = ap (map (λ s. (let x : GivenSnapshot = record { joiner = s.joiner; giver = s.giver; content = s.content } in x)))
        (only-one (λ (s : TransferState). s.joiner == joiner) (λ s. true) w.snapshots s there once);
  }

  of-new : IsTaken w p joiner pieces r once begun (copy_in w p joiner r) new
  of-new =
      let rest : List TransferState = filter (λ s. not (s.joiner == joiner)) w.snapshots in
      let here : (joiner == joiner) ≡ true = eq-eqb joiner joiner refl in
      record {
        group = refl;
        nodes = refl;
        joiner_is = refl;
        found = new;
        there = cond-true (joiner == joiner) (Some new) (find (λ (s : TransferState). s.joiner == joiner) rest) here;
        content = refl;
        served = server;
        without = cond-false (not (joiner == joiner)) (new ∷ filter (λ s. not (s.joiner == joiner)) rest) (filter (λ s. not (s.joiner == joiner)) rest) (ap not here)
            ∙ others-twice (λ (s : TransferState). s.joiner) joiner w.snapshots;
        own = ap (map (λ s. (let x : GivenSnapshot = record { joiner = s.joiner; giver = s.giver; content = s.content } in x)))
            (cond-true (joiner == joiner) (new ∷ filter (λ (s : TransferState). s.joiner == joiner) rest) (filter (λ (s : TransferState). s.joiner == joiner) rest) here
            ∙ ap (λ list. new ∷ list) (others-none (λ (s : TransferState). s.joiner) joiner w.snapshots));
      }

  abbrev event_world : World
  event_world = (world_step w (Transfer p joiner pieces)).world

  -- where the snapshot is this one
  event-same : (s : TransferState) (v : World) → snapshot_for w p joiner r ≡ s → IsSame v (after w p joiner pieces r once begun s) → IsSame v event_world
  unfolding world_step happens ended
  event-same s v for same =
      let goes : transfer w p joiner pieces ≡ take_pieces w s pieces =
      ap (λ (o : Option Replica). option_map_or (λ r. take_pieces w (snapshot_for w p joiner r) pieces) o (quietly w)) is ∙ ap (λ x. take_pieces w x pieces) for in
      subst (λ (g : StepInProgress). IsSame v (ended g).world) (sym goes)
      record { group = same.group; nodes = same.nodes; running = same.running; disk = same.disk; given = same.given }

  joins-is : (s : TransferState) → snapshot_for w p joiner r ≡ s → join_steps w p joiner pieces ≡ ending w p joiner pieces r once begun s
  joins-is s for =
      ap (λ (o : Option Replica). option_map_or (λ r. (let s = snapshot_for w p joiner r in if nat_le (piece_count s.content - s.taken) pieces then Joins joiner ∷ [] else [])) o []) is
      ∙ ap (λ (s : TransferState). if nat_le (piece_count s.content - s.taken) pieces then Joins joiner ∷ [] else []) for

  -- a snapshot of this representative is under way
  made-own : (s : TransferState) → snapshot_of w joiner ≡ Some s → (s.giver == p) ≡ true → IsMadeIn w (Transfer p joiner pieces)
  unfolding smalls_in
  made-own s there whose =
      let for : snapshot_for w p joiner r ≡ s = ap (λ (o : Option TransferState). option_map_or (λ s. s) o new)
      (only-both (λ (s : TransferState). s.joiner == joiner) (λ s. s.giver == p) w.snapshots s there once ∙ cond-true (s.giver == p) (Some s) None whose) in
      let none : copy_steps w p joiner ≡ [] = ap (λ (o : Option TransferState). cond (option_map_or (λ s. s.giver == p) o false) [] (Copies p joiner ∷ [])) there ∙ cond-true (s.giver == p) [] (Copies p joiner ∷ []) whose in
      let steps : smalls_in w (Transfer p joiner pieces) ≡ ending w p joiner pieces r once begun s = ap₂ (λ xs ys. xs ++ ys) none (joins-is s for) in
      let on = goes-on w p joiner pieces r once begun w s (of-own s there) in
      rw steps (on.0, event-same s (played_in w (ending w p joiner pieces r once begun s)) for on.1)

  -- a new one is taken
  made-new : find both w.snapshots ≡ None → copy_steps w p joiner ≡ Copies p joiner ∷ [] → IsMadeIn w (Transfer p joiner pieces)
  unfolding smalls_in small_in may_in may_make
  made-new none copies =
      let for : snapshot_for w p joiner r ≡ new = ap (λ (o : Option TransferState). option_map_or (λ s. s) o new) none in
      let steps : smalls_in w (Transfer p joiner pieces) ≡ Copies p joiner ∷ ending w p joiner pieces r once begun new = ap₂ (λ xs ys. xs ++ ys) copies (joins-is new for) in
      let on = goes-on w p joiner pieces r once begun (copy_in w p joiner r) new of-new in
      let first : option_map_or (copy_in w p joiner) (replica_of w p) w ≡ copy_in w p joiner r = ap (λ (o : Option Replica). option_map_or (copy_in w p joiner) o w) is in
      let may : option_map_or (λ (r : Replica). is_server r.held.members joiner) (replica_of w p) false ≡ true = ap (λ (o : Option Replica). option_map_or (λ r. is_server r.held.members joiner) o false) is ∙ server in
      rw steps (
        (ap₂ (λ a b. not a && b) begun may, subst (λ v. MayIn v (ending w p joiner pieces r once begun new)) (sym first) on.0),
        subst (λ v. IsSame (played_in v (ending w p joiner pieces r once begun new)) event_world) (sym first)
            (event-same new (played_in (copy_in w p joiner r) (ending w p joiner pieces r once begun new)) for on.1),
      )

  pub made-transfer : IsMadeIn w (Transfer p joiner pieces)
  made-transfer = at (snapshot_of w joiner) refl where
    at : (o : Option TransferState) → snapshot_of w joiner ≡ o → IsMadeIn w (Transfer p joiner pieces)
    at None e = made-new (neither (λ (s : TransferState). s.joiner == joiner) (λ s. s.giver == p) w.snapshots e)
        (ap (λ (o : Option TransferState). cond (option_map_or (λ s. s.giver == p) o false) [] (Copies p joiner ∷ [])) e)
    at (Some s) e = ⊎_elim (λ y. made-own s e y)
        (λ n. made-new (only-both (λ (s : TransferState). s.joiner == joiner) (λ s. s.giver == p) w.snapshots s e once ∙ cond-false (s.giver == p) (Some s) None n)
        (ap (λ (o : Option TransferState). cond (option_map_or (λ s. s.giver == p) o false) [] (Copies p joiner ∷ [])) e ∙ cond-false (s.giver == p) [] (Copies p joiner ∷ []) n))
        (cases_Bool (s.giver == p))

pub transfer-made : (w : World) (p joiner pieces : ℕ) → is_some (replica_of w p) ≡ true → ((s : TransferState) → snapshot_of w joiner ≡ Some s → is_server s.content.members joiner ≡ true) → length (snapshots_for w joiner) ≤ 1 →
    first_refusal w (Transfer p joiner pieces) ≡ None → IsMadeIn w (Transfer p joiner pieces)
unfolding first_refusal
transfer-made w p joiner pieces up each once admitted =
    let first = first-none (takes_part w p) (never_named w joiner ∷ begun_already w joiner ∷ joiner_left w p joiner ∷ not_green w p joiner ∷ []) (ap is_none admitted) in
    let second = first-none (never_named w joiner) (begun_already w joiner ∷ joiner_left w p joiner ∷ not_green w p joiner ∷ []) first.1 in
    let third = first-none (begun_already w joiner) (joiner_left w p joiner ∷ not_green w p joiner ∷ []) second.1 in
    let fourth = first-none (joiner_left w p joiner) (not_green w p joiner ∷ []) third.1 in
    let fifth = first-none (not_green w p joiner) [] fourth.1 in
    let run = is-running w p up in
    let green : option_map_or (λ (r : Replica). is_server r.held.members joiner) (replica_of w p) false ≡ true = refused-not _ (JoinNotGreen joiner) fifth.0 in
    made-transfer w p joiner pieces run.replica run.is each once (refuse_none (has_begun w joiner) _ third.0)
    (sym (ap (λ (o : Option Replica). option_map_or (λ (r : Replica). is_server r.held.members joiner) o false) run.is) ∙ green)
