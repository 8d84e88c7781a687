-- One step of a loop over commands, and of one over creators.
use Rattle.std.proofs.Common.{◌≡◌, ℕ, suc, ◌+◌, ◌*◌, ◌^◌, ◌≤◌, Bool, true, false, cond, eqb, List, ◌∷◌, fold, sym, ap, subst, ◌∙◌, arith}
use Rattle.std.specs.Prelude.{Option, ℤ, pos, ◌+ℤ◌}
use Rattle.std.proofs.lemmas.Bool.{eq-eqb}
use Rattle.cg_base.specs.Lists.{count_up}
use Rattle.cg_base.specs.Replicas.{every_replica}
use Rattle.cg_action.specs.declared.command.Cmd.{Cmd}
use Rattle.cg_action.specs.ActionLimits.{IsCommand}
use Rattle.cg_relaxed.specs.declared.write.Stamp.{Stamp}
use Rattle.cg_relaxed.specs.declared.write.Write.{Write}
use Rattle.cg_relaxed.specs.Writes.{adds, sum_after, write_of, written_from, later}
use Rattle.cg_relaxed.specs.RelaxedState.{IsWithin}
use Rattle.cg_relaxed.proofs.Later.{later-assoc}
use Rattle.cg_relaxed.proofs.Bounds.{wider, added-within, adds-within}

-- ---- commands

pub sums-step : (b : Bool) (key : List ℕ) (cmd : Cmd) (left rest : List Cmd) (x y w : ℤ) → left ≡ cmd ∷ rest →
    y ≡ cond b (x +ℤ adds key cmd) x → cond b (sum_after x key left) x ≡ w → cond b (sum_after y key rest) y ≡ w
sums-step true key cmd left rest x y w first is before =
    ap (λ v. sum_after v key rest) is ∙ ap (λ cmds. sum_after x key cmds) (sym first) ∙ before
sums-step false key cmd left rest x y w first is before = is ∙ before

abbrev pub at_place : Stamp → ℕ → Stamp
at_place s n = record { green_line = s.green_line; index = s.index; creator = s.creator; place = n }

pub registers-step : (key : List ℕ) (stamp : Stamp) (cmd : Cmd) (left rest : List Cmd) (x y w : Option Write) → left ≡ cmd ∷ rest →
    y ≡ later x (write_of key stamp cmd) → later x (written_from key stamp left) ≡ w →
    later y (written_from key (at_place stamp (stamp.place + 1)) rest) ≡ w
registers-step key stamp cmd left rest x y w first is before =
    let next : stamp.place + 1 ≡ suc stamp.place = omega arith in
    let tail = written_from key (at_place stamp (suc stamp.place)) rest in
    ap (λ v. later v (written_from key (at_place stamp (stamp.place + 1)) rest)) is
    ∙ ap (λ n. later (later x (write_of key stamp cmd)) (written_from key (at_place stamp n) rest)) next
    ∙ later-assoc x (write_of key stamp cmd) tail
    ∙ ap (λ cmds. later x (written_from key stamp cmds)) (sym first) ∙ before

pub within-step : (p q m n : ℕ) (x y : ℤ) (key : List ℕ) (cmd : Cmd) → p ≡ q → y ≡ cond (eqb p q) (x +ℤ adds key cmd) x →
    IsCommand cmd → m + 2 ^ 63 ≤ n → IsWithin m x → IsWithin n y
within-step p q m n x y key cmd same is command more within =
    let sum : y ≡ x +ℤ adds key cmd = is ∙ ap (λ b. cond b (x +ℤ adds key cmd) x) (eq-eqb p q same) in
    subst (λ z. IsWithin n z) (sym sum)
    (wider (m + 2 ^ 63) n (x +ℤ adds key cmd) more (added-within m (2 ^ 63) x (adds key cmd) within (adds-within key cmd command)))

-- ---- creators

pub first-total : (f : ℤ → ℕ → ℤ) (n : ℕ) → 1 + n ≡ 33 → fold f (pos 0) (count_up 1 n) ≡ fold f (pos 0) every_replica
unfolding every_replica
first-total f n is = let all : n ≡ 32 = omega arith in ap (λ k. fold f (pos 0) (count_up 1 k)) all

pub next-total : (f : ℤ → ℕ → ℤ) (k n : ℕ) (t u w : ℤ) → u ≡ f t k → fold f t (count_up k (suc n)) ≡ w →
    fold f u (count_up (k + 1) n) ≡ w
next-total f k n t u w is before =
    let next : k + 1 ≡ suc k = omega arith in
    ap (λ x. fold f x (count_up (k + 1) n)) is ∙ ap (λ j. fold f (f t k) (count_up j n)) next ∙ before

pub next-within : (k : ℕ) (t s u : ℤ) → u ≡ t +ℤ s → IsWithin (k * 2 ^ 107) t → IsWithin (2 ^ 107) s → IsWithin ((k + 1) * 2 ^ 107) u
next-within k t s u is one other =
    subst (λ z. IsWithin ((k + 1) * 2 ^ 107) z) (sym is)
    (wider (k * 2 ^ 107 + 2 ^ 107) ((k + 1) * 2 ^ 107) (t +ℤ s) (omega arith) (added-within (k * 2 ^ 107) (2 ^ 107) t s one other))
