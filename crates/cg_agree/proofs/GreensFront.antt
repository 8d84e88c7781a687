-- The greens of each replica go on at their end, behind each small step.
use Rattle.std.proofs.Common.{◌≡◌, ℕ, true, false, [], ◌++◌, find, Option, Some, None, refl, sym, ap, ◌∙◌, subst, inl, inr, option_map, is_some}
use Rattle.std.specs.Prelude.{◌==◌}
use Rattle.std.specs.Option.{option_map_or}
use Rattle.std.proofs.lemmas.Bool.{cases_eq, cond-false, ne_eqb, and_parts}
use Rattle.cg_base.specs.Text.{is_nil}
use Rattle.cg_base.specs.Weights.{ids}
use Rattle.cg_client.specs.Replica.{Held, Replica}
use Rattle.cg_client.specs.Turn.{Turn, begin}
use Rattle.cg_client.specs.Requests.{settle}
use Rattle.cg_disk_records.specs.Crash.{Disk}
use Rattle.cg_model.specs.World.{NodeState, Up, Down, Node, node_of, replica_of, has_begun}
use Rattle.cg_model.specs.Chronicle.{Past, Chronicle}
use Rattle.cg_model.specs.Fronts.{Front}
use Rattle.cg_model.specs.Looks.{past_of, greens_of, stood_of, snapshot_of, copied_for}
use Rattle.cg_model.specs.Facts.{Invariant}
use Rattle.cg_model.specs.Played.{AtRest}
use Rattle.cg_model.specs.Small.{Small, Starts, Makes, Enters, Orders, Receives, Hands, Leaves, Asks, Settles, Commits, Crashes, Recovers, Copies, Joins, small_step, start, changed_past, struck, new_past, turning, turning_as, newly_green, after_turn, coming, handed_next, leaving, take_newest, take_next, take_parting, take_request, commit_as, crash_as, recover_as, copy_as, join_with}
use Rattle.cg_model.specs.Smalls.{may_make, is_set}
use Rattle.cg_agree_lemmas.specs.FrontFacts.{Front-refl, Front-append}
use Rattle.cg_agree_lemmas.specs.ChronicleFacts.{greens_of-other, past-begun}
use Rattle.cg_agree_lemmas.specs.CoresKept.{node-of, greens-turn, past-here, past-there}
use Rattle.cg_agree.proofs.BegunKept.{nothing-before}
use Rattle.cg_agree_lemmas.specs.OneSteps.{may-join}
use Rattle.cg_agree_lemmas.specs.TurnAlong.{commit-same}
use Rattle.cg_agree_lemmas.specs.Looking.{greens-in}

abbrev pub GreensGoOn : Chronicle → Chronicle → Type 0
GreensGoOn c d = (p : ℕ) → Front (greens_of c p) (greens_of d p)

same-front : (c d : Chronicle) (p : ℕ) → greens_of d p ≡ greens_of c p → Front (greens_of c p) (greens_of d p)
same-front c d p e = subst (Front (greens_of c p)) (sym e) (Front-refl (greens_of c p))

none-changed : (c d : Chronicle) → d.pasts ≡ c.pasts → GreensGoOn c d
none-changed c d pasts p = same-front c d p (ap (λ xs. greens-in (find (λ (x : Past). x.id == p) xs)) pasts)

-- ---- a turn

turn-goes : (c b : Chronicle) (p : ℕ) (part : Turn → Turn) → Invariant c → b.world.nodes ≡ c.world.nodes → b.pasts ≡ c.pasts → GreensGoOn c (turning b p part)
turn-goes c b p part i nodes pasts = at (node_of b.world p) refl where
  begun : (q : ℕ) → is_some (past_of b q) ≡ has_begun b.world q
  begun q = ap (λ xs. is_some (find (λ (x : Past). x.id == q) xs)) pasts ∙ i.net.hosted.past q ∙ ap (λ xs. is_some (find (λ (s : Node). s.id == q) xs)) (sym nodes)

  same-greens : (q : ℕ) → greens_of b q ≡ greens_of c q
  same-greens q = ap (λ xs. greens-in (find (λ (x : Past). x.id == q) xs)) pasts

  turn : (r : Replica) (disk : Disk) → node_of b.world p ≡ Some (record { id = p; life = Up r disk }) → GreensGoOn c (after_turn b p r disk (part (begin r)))
  turn r disk node q =
      let t = part (begin r) in
      let d = after_turn b p r disk t in
      elim (cases_eq q p) [
        | inl same ↦
            let e : greens_of d p ≡ greens_of c p ++ newly_green r t.replica = greens-turn b p r disk t begun node ∙ ap (λ xs. xs ++ newly_green r t.replica) (same-greens p) in
            subst (λ n. Front (greens_of c n) (greens_of d n)) (sym same) (subst (Front (greens_of c p)) (sym e) (Front-append (greens_of c p) (newly_green r t.replica)))
        | inr apart ↦ same-front c d q (greens_of-other b p r disk t q apart ∙ same-greens q)
      ]

  life : (s : Node) (l : NodeState) → s.life ≡ l → node_of b.world p ≡ Some s → GreensGoOn c (turning_as b p part l)
  life s (Up r disk) is e = turn r disk (node-of b p s (Up r disk) is e)
  life s (Down disk green) is e = none-changed c b pasts

  at : (o : Option Node) → node_of b.world p ≡ o → GreensGoOn c (option_map_or (λ s. turning_as b p part s.life) o b)
  at None e = none-changed c b pasts
  at (Some s) e = life s s.life refl e

-- ---- one replica's past changes

past-same : (c d : Chronicle) (change : Past → Past) (p : ℕ) → ((x : Past) → (change x).id ≡ x.id) → d.pasts ≡ changed_past change p c.pasts → greens-in (option_map change (past_of c p)) ≡ greens_of c p →
    (q : ℕ) → greens_of d q ≡ greens_of c q
past-same c d change p keeps pasts same q = ap (λ xs. greens-in (find (λ (x : Past). x.id == q) xs)) pasts ∙ elim (cases_eq p q) [
  | inl here ↦ subst (λ n. greens-in (find (λ (x : Past). x.id == n) (changed_past change p c.pasts)) ≡ greens_of c n) here (ap greens-in (past-here change keeps c p) ∙ same)
  | inr apart ↦ ap greens-in (past-there change keeps c p q apart)
]

pub crash-same : (c : Chronicle) (p : ℕ) → greens_of c p ≡ stood_of c p → (l : NodeState) (q : ℕ) → greens_of (crash_as c p l) q ≡ greens_of c q
crash-same c p agree (Down disk green) q = refl
crash-same c p agree (Up r disk) q = past-same c (crash_as c p (Up r disk)) struck p (λ x. refl) refl (same (past_of c p) ∙ sym agree) q where
  same : (o : Option Past) → greens-in (option_map struck o) ≡ option_map_or (λ x. x.stood) o []
  same None = refl
  same (Some x) = refl

commit-goes : (c : Chronicle) (p : ℕ) (l : NodeState) → GreensGoOn c (commit_as c p l)
commit-goes c p l q = same-front c (commit_as c p l) q (commit-same c p l q)

crash-goes : (c : Chronicle) (p : ℕ) → greens_of c p ≡ stood_of c p → (l : NodeState) → GreensGoOn c (crash_as c p l)
crash-goes c p agree l q = same-front c (crash_as c p l) q (crash-same c p agree l q)

recover-goes : (c : Chronicle) (l : NodeState) → GreensGoOn c (recover_as c l)
recover-goes c (Up r disk) = none-changed c c refl
recover-goes c (Down disk green) = none-changed c (recover_as c (Down disk green)) refl

join-goes : (c : Chronicle) (joiner : ℕ) → past_of c joiner ≡ None → (content : Held) → GreensGoOn c (join_with c joiner content)
join-goes c joiner absent content q = elim (cases_eq joiner q) [
  | inl same ↦ subst (λ xs. Front xs (greens_of (join_with c joiner content) q)) (sym (ap (λ n. greens_of c n) (sym same) ∙ ap greens-in absent)) tt
  | inr apart ↦ same-front c (join_with c joiner content) q
      (ap greens-in (past-begun c.pasts (new_past (copied_for c joiner) joiner) q absent ∙ cond-false (joiner == q) (Some (new_past (copied_for c joiner) joiner)) (past_of c q) (ne_eqb joiner q apart)))
]

goes-some : {X : Type 0} (o : Option X) (change : X → Chronicle) (c : Chronicle) → ((x : X) → GreensGoOn c (change x)) → GreensGoOn c (option_map_or change o c)
goes-some None change c each = none-changed c c refl
goes-some (Some x) change c each = each x

-- Greens go on at their end.
pub greens-go_on : (c : Chronicle) (s : Small) → Invariant c → may_make c s ≡ true → AtRest c s → GreensGoOn c (small_step c s)
unfolding small_step may_make
greens-go_on c (Starts set) i may rest = λ p.
    let before = nothing-before c i.net.hosted (and_parts (is_nil c.world.nodes) (is_set (ids set)) may).0 in
    subst (λ (x : Chronicle). Front (greens_of x p) (greens_of (start c set) p)) (sym before) tt
greens-go_on c (Makes set) i may rest = none-changed c (small_step c (Makes set)) refl
greens-go_on c (Enters p) i may rest = turn-goes c (coming c p) p (take_newest c.world.group) i refl refl
greens-go_on c (Orders p) i may rest = none-changed c (small_step c (Orders p)) refl
greens-go_on c (Receives p place) i may rest = none-changed c (small_step c (Receives p place)) refl
greens-go_on c (Hands p) i may rest = turn-goes c (handed_next c p) p (take_next c.world.group p) i refl refl
greens-go_on c (Leaves p set own places) i may rest = turn-goes c (leaving c p set own) p (take_parting c.world.group p set places) i refl refl
greens-go_on c (Asks p kind) i may rest = turn-goes c c p (take_request kind) i refl refl
greens-go_on c (Settles p) i may rest = turn-goes c c p settle i refl refl
greens-go_on c (Commits p) i may rest = goes-some (node_of c.world p) (λ s. commit_as c p s.life) c (λ s. commit-goes c p s.life)
greens-go_on c (Crashes p) i may rest = goes-some (node_of c.world p) (λ s. crash_as c p s.life) c (λ s. crash-goes c p rest.greens s.life)
greens-go_on c (Recovers p) i may rest = goes-some (node_of c.world p) (λ s. recover_as c s.life) c (λ s. recover-goes c s.life)
greens-go_on c (Copies p joiner) i may rest = goes-some (replica_of c.world p) (copy_as c p joiner) c (λ r. none-changed c (copy_as c p joiner r) refl)
greens-go_on c (Joins joiner) i may rest = goes-some (snapshot_of c.world joiner) (λ s. join_with c joiner s.content) c (λ s. join-goes c joiner (nothing (past_of c joiner) (i.net.hosted.past joiner ∙ (may-join c joiner may).fresh)) s.content) where
  nothing : (o : Option Past) → is_some o ≡ false → o ≡ None
  nothing None e = refl
  nothing (Some s) e = absurd (let clash : true ≡ false = e in cc)
