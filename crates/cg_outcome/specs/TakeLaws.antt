-- What is taken in turns.
use Rattle.std.proofs.Common.{ℕ, List, [], ◌++◌, append_assoc, Option, Some, None, refl, sym, ap, ◌∙◌}
use Rattle.std.specs.Io.KnownBytes.{Consumes}

pub Consumes-none : (h : Option (List ℕ)) → Consumes h h []
Consumes-none None = tt
Consumes-none (Some xs) = refl

pub Consumes-twice : (h h1 h2 : Option (List ℕ)) (s t : List ℕ) → Consumes h h1 s →
    Consumes h1 h2 t → Consumes h h2 (s ++ t)
Consumes-twice None h1 h2 s t p q = tt
Consumes-twice (Some xs) None h2 s t p q = absurd p
Consumes-twice (Some xs) (Some ys) None s t p q = absurd q
Consumes-twice (Some xs) (Some ys) (Some zs) s t p q = p ∙ ap (λ w. s ++ w) q ∙ sym (append_assoc s t zs)
