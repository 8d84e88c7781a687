-- What an attempt is made of stays as it was noted first; who entered, installed and left it is added.
use Rattle.std.proofs.Common.{◌≡◌, ℕ, Bool, true, false, cond, List, [], ◌∷◌, ◌++◌, Option, Some, None, option_map, length, find, refl, ap, ap₂, ◌∙◌, if◌then◌else◌}
use Rattle.std.specs.Prelude.{◌==◌}
use Rattle.std.specs.Option.{option_map_or}
use Rattle.std.proofs.lemmas.Bool.{cond_both}
use Rattle.cg_base.specs.Sets.{has}
use Rattle.cg_base.specs.FindLaws.{found_before}
use Rattle.cg_action.specs.declared.action.Action.{Action}
use Rattle.cg_records.specs.declared.vulnerable.Vulnerable.{Vulnerable}
use Rattle.cg_client.specs.Replica.{Held, Replica}
use Rattle.cg_client.specs.Turn.{Turn, begin}
use Rattle.cg_client.specs.Requests.{settle}
use Rattle.cg_group.specs.State.{phase_of}
use Rattle.cg_model.specs.World.{NodeState, Up, Down, node_of, replica_of}
use Rattle.cg_model.specs.Attempts.{new_attempt, is_seen, with_attempt_of}
use Rattle.cg_model.specs.Chronicle.{Attempt, Chronicle}
use Rattle.cg_model.specs.Looks.{installation, snapshot_of, greens_of, stood_of, conf_at}
use Rattle.cg_model.specs.Small.{Small, Starts, Makes, Enters, Orders, Receives, Hands, Leaves, Asks, Settles, Commits, Crashes, Recovers, Copies, Joins, small_step, changed_attempt, with_entrant, with_installer, with_leaver, entering, installing, attempts_behind, is_entry, is_installation, newly_green, turning_as, turning, commit_as, crash_as, recover_as, copy_as, join_with, coming, take_newest, handed_next, take_next, leaving, take_parting, take_request}
use Rattle.cg_agree_lemmas.specs.Keyed.{found-changed}

pub record SameAttempt (a b : Attempt) : Type 0 where
  pub conf : b.conf ≡ a.conf
  pub from : b.from ≡ a.from
  pub set : b.set ≡ a.set
  pub greens : b.greens ≡ a.greens
  pub yellow : b.yellow ≡ a.yellow
  pub reds : b.reds ≡ a.reds

pub same-refl : (a : Attempt) → SameAttempt a a
same-refl a = record { conf = refl; from = refl; set = refl; greens = refl; yellow = refl; reds = refl }

pub same-then : (a b e : Attempt) → SameAttempt a b → SameAttempt b e → SameAttempt a e
same-then a b e one two = record {
  conf = two.conf ∙ one.conf;
  from = two.from ∙ one.from;
  set = two.set ∙ one.set;
  greens = two.greens ∙ one.greens;
  yellow = two.yellow ∙ one.yellow;
  reds = two.reds ∙ one.reds;
}

pub same-installation : (a b : Attempt) → SameAttempt a b → installation b ≡ installation a
same-installation a b same = ap₂ (λ xs ys. xs ++ ys) (ap₂ (λ xs ys. xs ++ ys) same.greens same.yellow) same.reds

abbrev at_conf : List Attempt → ℕ → Option Attempt
at_conf attempts conf = find (λ a. a.conf == conf) attempts

-- the attempt of a configuration is there still
pub record IsStill (attempts : List Attempt) (conf : ℕ) (a : Attempt) : Type 0 where
  pub now : Attempt
  pub found : at_conf attempts conf ≡ Some now
  pub same : SameAttempt a now

-- each attempt of the first list is there still in the second
pub record KeepsAttempts (olds news : List Attempt) : Type 0 where
  pub still : (conf : ℕ) (a : Attempt) → at_conf olds conf ≡ Some a → IsStill news conf a

pub keeps-refl : (attempts : List Attempt) → KeepsAttempts attempts attempts
keeps-refl attempts = record { still = λ conf a e. record { now = a; found = e; same = same-refl a } }

pub keeps-then : (xs ys zs : List Attempt) → KeepsAttempts xs ys → KeepsAttempts ys zs → KeepsAttempts xs zs
keeps-then xs ys zs one two = record {
  still = λ conf a e. (let mid = one.still conf a e in let last = two.still conf mid.now mid.found in
      record { now = last.now; found = last.found; same = same-then a mid.now last.now mid.same last.same });
}

keeps-changed : (f : Attempt → Attempt) → ((a : Attempt) → SameAttempt a (f a)) → (conf : ℕ) (attempts : List Attempt) → KeepsAttempts attempts (changed_attempt f conf attempts)
keeps-changed f keeps conf attempts = record {
  still = λ k a e. (let behind = found-changed (λ (a : Attempt). a.conf) f (λ a. (keeps a).conf) conf attempts k in
      choice k a (k == conf) (behind ∙ ap (λ o. cond (k == conf) (option_map f o) o) e));
} where
  choice : (k : ℕ) (a : Attempt) (b : Bool) → at_conf (changed_attempt f conf attempts) k ≡ cond b (option_map f (Some a)) (Some a) → IsStill (changed_attempt f conf attempts) k a
  choice k a true e = record { now = f a; found = e; same = keeps a }
  choice k a false e = record { now = a; found = e; same = same-refl a }

keeps-appended : (attempts more : List Attempt) → KeepsAttempts attempts (attempts ++ more)
keeps-appended attempts more = record { still = λ conf a e. record { now = a; found = found_before (λ (a : Attempt). a.conf == conf) attempts more a e; same = same-refl a } }

same-leaver : (p count : ℕ) (a : Attempt) → SameAttempt a (with_leaver p count a)
same-leaver p count a =
    cond_both (has a.entered p) (record a { left = a.left ++ record { member = p; count = count } ∷ [] }) a (SameAttempt a)
    (λ y. record { conf = refl; from = refl; set = refl; greens = refl; yellow = refl; reds = refl }) (λ n. same-refl a)

same-entrant : (p : ℕ) (a : Attempt) → SameAttempt a (with_entrant p a)
same-entrant p a = record { conf = refl; from = refl; set = refl; greens = refl; yellow = refl; reds = refl }

same-installer : (p : ℕ) (a : Attempt) → SameAttempt a (with_installer p a)
same-installer p a = record { conf = refl; from = refl; set = refl; greens = refl; yellow = refl; reds = refl }

keeps-entering : (greens : List Action) (h : Held) (attempts : List Attempt) (v : Option Vulnerable) → KeepsAttempts attempts (entering greens h attempts v)
keeps-entering greens h attempts None = keeps-refl attempts
keeps-entering greens h attempts (Some v) =
    let more = with_attempt_of attempts greens h (Some v) in
    keeps-then attempts more (changed_attempt (with_entrant h.id) v.attempt more)
    (cond_both (is_seen attempts v.attempt) attempts (attempts ++ new_attempt greens h v ∷ []) (KeepsAttempts attempts) (λ y. keeps-refl attempts) (λ n. keeps-appended attempts (new_attempt greens h v ∷ [])))
    (keeps-changed (with_entrant h.id) (same-entrant h.id) v.attempt more)

keeps-installing : (p : ℕ) (attempts : List Attempt) (v : Option Vulnerable) → KeepsAttempts attempts (installing p attempts v)
keeps-installing p attempts None = keeps-refl attempts
keeps-installing p attempts (Some v) = keeps-changed (with_installer p) (same-installer p) v.attempt attempts

keeps-behind : (attempts : List Attempt) (p : ℕ) (greens : List Action) (old new : Replica) → KeepsAttempts attempts (attempts_behind attempts p greens old new)
keeps-behind attempts p greens old new =
    cond_both (is_entry old.state new.state) (entering greens new.held attempts new.held.vulnerable)
    (if is_installation old.state new.state then installing p attempts new.held.vulnerable else attempts) (KeepsAttempts attempts)
    (λ y. keeps-entering greens new.held attempts new.held.vulnerable)
    (λ n. cond_both (is_installation old.state new.state) (installing p attempts new.held.vulnerable) attempts (KeepsAttempts attempts)
    (λ y. keeps-installing p attempts new.held.vulnerable) (λ m. keeps-refl attempts))

keeps-turning_as : (c : Chronicle) (p : ℕ) (part : Turn → Turn) (life : NodeState) → KeepsAttempts c.attempts (turning_as c p part life).attempts
keeps-turning_as c p part (Up r disk) =
    let t = part (begin r) in keeps-behind c.attempts p (greens_of c p ++ newly_green r t.replica) r t.replica
keeps-turning_as c p part (Down disk green) = keeps-refl c.attempts

at-some : {X : Type 0} (o : Option X) (change : X → Chronicle) (c : Chronicle) → ((x : X) → KeepsAttempts c.attempts (change x).attempts) →
    KeepsAttempts c.attempts (option_map_or change o c).attempts
at-some None change c each = keeps-refl c.attempts
at-some (Some x) change c each = each x

keeps-turning : (c : Chronicle) (p : ℕ) (part : Turn → Turn) → KeepsAttempts c.attempts (turning c p part).attempts
keeps-turning c p part = at-some (node_of c.world p) (λ s. turning_as c p part s.life) c (λ s. keeps-turning_as c p part s.life)

pub keeps-left : (c : Chronicle) (p count : ℕ) → KeepsAttempts c.attempts (changed_attempt (with_leaver p count) (conf_at (phase_of c.world.group p)) c.attempts)
keeps-left c p count = keeps-changed (with_leaver p count) (same-leaver p count) (conf_at (phase_of c.world.group p)) c.attempts

keeps-commit_as : (c : Chronicle) (p : ℕ) (life : NodeState) → KeepsAttempts c.attempts (commit_as c p life).attempts
keeps-commit_as c p (Up r disk) = keeps-refl c.attempts
keeps-commit_as c p (Down disk green) = keeps-refl c.attempts

keeps-crash_as : (c : Chronicle) (p : ℕ) (life : NodeState) → KeepsAttempts c.attempts (crash_as c p life).attempts
keeps-crash_as c p (Up r disk) = keeps-left c p (length (stood_of c p))
keeps-crash_as c p (Down disk green) = keeps-refl c.attempts

keeps-recover_as : (c : Chronicle) (life : NodeState) → KeepsAttempts c.attempts (recover_as c life).attempts
keeps-recover_as c (Up r disk) = keeps-refl c.attempts
keeps-recover_as c (Down disk green) = keeps-refl c.attempts

-- An attempt stays what it was in each small step.
pub attempts-kept : (c : Chronicle) (s : Small) → KeepsAttempts c.attempts (small_step c s).attempts
unfolding small_step
attempts-kept c (Starts set) = keeps-refl c.attempts
attempts-kept c (Makes set) = keeps-refl c.attempts
attempts-kept c (Enters p) =
    keeps-then c.attempts (coming c p).attempts _ (keeps-left c p (length (greens_of c p))) (keeps-turning (coming c p) p (take_newest c.world.group))
attempts-kept c (Orders p) = keeps-refl c.attempts
attempts-kept c (Receives p place) = keeps-refl c.attempts
attempts-kept c (Hands p) = keeps-turning (handed_next c p) p (take_next c.world.group p)
attempts-kept c (Leaves p set own places) = keeps-turning (leaving c p set own) p (take_parting c.world.group p set places)
attempts-kept c (Asks p kind) = keeps-turning c p (take_request kind)
attempts-kept c (Settles p) = keeps-turning c p settle
attempts-kept c (Commits p) = at-some (node_of c.world p) (λ s. commit_as c p s.life) c (λ s. keeps-commit_as c p s.life)
attempts-kept c (Crashes p) = at-some (node_of c.world p) (λ s. crash_as c p s.life) c (λ s. keeps-crash_as c p s.life)
attempts-kept c (Recovers p) = at-some (node_of c.world p) (λ s. recover_as c s.life) c (λ s. keeps-recover_as c s.life)
attempts-kept c (Copies p joiner) = at-some (replica_of c.world p) (copy_as c p joiner) c (λ r. keeps-refl c.attempts)
attempts-kept c (Joins joiner) = at-some (snapshot_of c.world joiner) (λ s. join_with c joiner s.content) c (λ s. keeps-refl c.attempts)
