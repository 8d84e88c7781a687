-- Lists of summaries that are one list, or differ by two neighbours that changed places: a filter leaves such lists, and what is made of them
-- step by step, in steps that may change places, is the same.
use Rattle.std.proofs.Common.{◌≡◌, ℕ, Bool, true, false, cond, ◌&&◌, ◌||◌, List, [], ◌∷◌, ◌++◌, map, filter, fold, max, Option, Some, None, ◌⊎◌, inl, inr, refl, sym, ap, ◌∙◌, arith}
use Rattle.std.specs.List.{list_all, list_any}
use Rattle.std.proofs.lemmas.List.Elements.{filter-append}
use Rattle.std.proofs.lemmas.List.Folds.{fold-map}
use Rattle.cg_base.specs.Lists.{greatest, lesser, least_of}
use Rattle.cg_knowledge.specs.declared.summary.Summary.{Summary}
use Rattle.cg_laws.specs.Reordered.{AreExchanged}

abbrev pub Near : List Summary → List Summary → Type 0
Near one other = (one ≡ other) ⊎ AreExchanged one other

-- two different members
abbrev pub Apart : Summary → Summary → Type 0
Apart s t = s.id ≡ t.id → ⊥

-- ---- what a filter leaves

kept : (a b : Bool) (s t : Summary) → Apart s t → (earlier later : List Summary)
    → Near (earlier ++ cond a (s ∷ cond b (t ∷ later) later) (cond b (t ∷ later) later)) (earlier ++ cond b (t ∷ cond a (s ∷ later) later) (cond a (s ∷ later) later))
kept true true s t apart earlier later =
    inr (record { earlier = earlier; first = s; second = t; later = later; apart = apart; is_one = refl; is_other = refl })
kept true false s t apart earlier later = inl refl
kept false true s t apart earlier later = inl refl
kept false false s t apart earlier later = inl refl

near-by : (one other one' other' : List Summary) → one ≡ one' → other ≡ other' → Near one' other' → Near one other
near-by one other one' other' e f (inl same) = inl (e ∙ same ∙ sym f)
near-by one other one' other' e f (inr x) =
    inr (record { earlier = x.earlier; first = x.first; second = x.second; later = x.later; apart = x.apart; is_one = e ∙ x.is_one; is_other = f ∙ x.is_other })

pub near-filter : (p : Summary → Bool) (one other : List Summary) → Near one other → Near (filter p one) (filter p other)
near-filter p one other (inl same) = inl (ap (filter p) same)
near-filter p one other (inr x) =
    near-by (filter p one) (filter p other) _ _
    (ap (filter p) x.is_one ∙ filter-append p x.earlier (x.first ∷ x.second ∷ x.later))
    (ap (filter p) x.is_other ∙ filter-append p x.earlier (x.second ∷ x.first ∷ x.later))
    (kept (p x.first) (p x.second) x.first x.second x.apart (filter p x.earlier) (filter p x.later))

-- ---- what is made of them

-- what is the same where any two neighbours change places
abbrev TakesNeighbours : {Y : Type 0} → (List Summary → Y) → Type 0
TakesNeighbours F = (s t : Summary) → Apart s t → (later earlier : List Summary) → F (earlier ++ (s ∷ t ∷ later)) ≡ F (earlier ++ (t ∷ s ∷ later))

near-same : {Y : Type 0} (F : List Summary → Y) → TakesNeighbours F → (one other : List Summary) → Near one other → F one ≡ F other
near-same F swap one other (inl same) = ap F same
near-same F swap one other (inr x) = ap F x.is_one ∙ swap x.first x.second x.apart x.later x.earlier ∙ sym (ap F x.is_other)

-- the steps of two different members may change places
abbrev pub Commutes : {Y : Type 0} → (Y → Summary → Y) → Type 0
Commutes f = (s t : Summary) → Apart s t → (y : _) → f (f y s) t ≡ f (f y t) s

pub near-fold : {Y : Type 0} (f : Y → Summary → Y) → Commutes f → (y : Y) (one other : List Summary) → Near one other → fold f y one ≡ fold f y other
near-fold {Y} f commutes y one other near = near-same (fold f y) (λ s t apart later earlier. swapped s t apart later earlier y) one other near
  where
    swapped : (s t : Summary) → Apart s t → (later earlier : List Summary) (y : Y) → fold f y (earlier ++ (s ∷ t ∷ later)) ≡ fold f y (earlier ++ (t ∷ s ∷ later))
    swapped s t apart later [] y = ap (λ z. fold f z later) (commutes s t apart y)
    swapped s t apart later (x ∷ earlier) y = swapped s t apart later earlier (f y x)

pub near-all : (p : Summary → Bool) (one other : List Summary) → Near one other → list_all p one ≡ list_all p other
near-all p = near-same (list_all p) swapped
  where
    and_swapped : (a b c : Bool) → (a && (b && c)) ≡ (b && (a && c))
    and_swapped true b c = refl
    and_swapped false true c = refl
    and_swapped false false c = refl

    swapped : TakesNeighbours (list_all p)
    swapped s t apart later [] = and_swapped (p s) (p t) (list_all p later)
    swapped s t apart later (x ∷ earlier) = ap (λ b. p x && b) (swapped s t apart later earlier)

pub near-any : (p : Summary → Bool) (one other : List Summary) → Near one other → list_any p one ≡ list_any p other
near-any p = near-same (list_any p) swapped
  where
    or_swapped : (a b c : Bool) → (a || (b || c)) ≡ (b || (a || c))
    or_swapped true true c = refl
    or_swapped true false c = refl
    or_swapped false b c = refl

    swapped : TakesNeighbours (list_any p)
    swapped s t apart later [] = or_swapped (p s) (p t) (list_any p later)
    swapped s t apart later (x ∷ earlier) = ap (λ b. p x || b) (swapped s t apart later earlier)

pub near-greatest : (g : Summary → ℕ) (one other : List Summary) → Near one other → greatest (map g one) ≡ greatest (map g other)
near-greatest g one other near =
    fold-map max g 0 one ∙ near-fold (λ n s. max n (g s)) (λ s t apart n. omega arith) 0 one other near ∙ sym (fold-map max g 0 other)

lesser-swapped : (o : Option ℕ) (m n : ℕ) → lesser (lesser o m) n ≡ lesser (lesser o n) m
lesser-swapped None m n = ap Some (omega arith)
lesser-swapped (Some k) m n = ap Some (omega arith)

pub near-least : (g : Summary → ℕ) (one other : List Summary) → Near one other → least_of (map g one) ≡ least_of (map g other)
near-least g one other near =
    fold-map lesser g None one ∙ near-fold (λ o s. lesser o (g s)) (λ s t apart o. lesser-swapped o (g s) (g t)) None one other near
    ∙ sym (fold-map lesser g None other)
