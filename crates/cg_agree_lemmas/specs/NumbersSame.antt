-- What is in messages and how actions are numbered is the same where as much was handed and said.
use Rattle.std.proofs.Common.{◌≡◌, ℕ, suc, true, false, List, [], ◌∷◌, ◌++◌, map, filter_map, drop, length, Option, Some, None, IfSome, refl, sym, ap, ap₂, subst, ◌∙◌}
use Rattle.cg_base.specs.Cuts.{index_in}
use Rattle.cg_base.specs.Lists.{count_up}
use Rattle.cg_action.specs.declared.action.Action.{Action}
use Rattle.cg_wire.specs.declared.message.Msg.{Msg}
use Rattle.cg_group.specs.declared.phase.Phase.{Phase}
use Rattle.cg_group.specs.declared.phase.Phase.TheVariants.{Down, Alone, Regular, Transitional}
use Rattle.cg_client.specs.Replica.{Held, State, RegPrim, TransPrim, ExchangeStates, ExchangeActions, Construct, No, Un, NonPrim, Left, Replica}
use Rattle.cg_model.specs.Chronicle.{Chronicle}
use Rattle.cg_model.specs.Looks.{said_in}
use Rattle.cg_model.specs.Talk.{Talk, act_in}
use Rattle.cg_model.specs.FactsTalk.{handed_talk, AreContents, of_creator, count_behind, AreOnTheWay, AreNumbered, AreNumberedAt}

-- two that hold the same numbers
pub record SameNumbers (h i : Held) : Type 0 where
  pub green : i.queue.green_cut ≡ h.queue.green_cut
  pub red : i.queue.red_cut ≡ h.queue.red_cut
  pub reds : i.queue.reds ≡ h.queue.reds
  pub own : i.own ≡ h.own

pub same-numbers : (h : Held) → SameNumbers h h
same-numbers h = record { green = refl; red = refl; reds = refl; own = refl }

module _ (c d : Chronicle) (k q : ℕ) (handed : handed_talk d k q ≡ handed_talk c k q) (said : said_in d k q ≡ said_in c k q) where
  way-same : (h i : Held) → SameNumbers h i → AreOnTheWay c k q h → AreOnTheWay d k q i
  way-same h i same are = same.own ∙ are
      ∙ ap₂ (λ (t : Talk) xs. drop (length (of_creator q t.acts)) (filter_map act_in xs)) (sym handed) (sym said)

  pub numbered-same : (h i : Held) → SameNumbers h i → (state : State) → AreNumbered c k q h state → AreNumbered d k q i state
  numbered-same h i same (NonPrim true) are =
      (λ creator. ap (λ cut. index_in cut creator) same.red ∙ are.0 creator ∙ ap (λ (t : Talk). count_behind t creator) (sym handed), way-same h i same are.1)
  numbered-same h i same RegPrim are =
      (λ creator. ap (λ cut. index_in cut creator) same.green ∙ are.0 creator ∙ ap (λ (t : Talk). count_behind t creator) (sym handed), same.reds ∙ are.1, way-same h i same are.2)
  numbered-same h i same (NonPrim false) are = are
  numbered-same h i same TransPrim are = are
  numbered-same h i same (ExchangeStates at set heard) are = are
  numbered-same h i same (ExchangeActions at heard n) are = are
  numbered-same h i same (Construct at heard) are = λ creator. ap (λ cut. index_in cut creator) same.red ∙ are creator ∙ ap (λ (t : Talk). count_behind t creator) (sym handed)
  numbered-same h i same (No at heard) are = are
  numbered-same h i same Un are = are
  numbered-same h i same Left are = are

-- one replica is as another in state and numbers
abbrev pub IsNumberedAs : Option Replica → Option Replica → Type 0
IsNumberedAs None None = Unit {0}
IsNumberedAs (Some r) (Some s) = (s.state ≡ r.state) × SameNumbers r.held s.held
IsNumberedAs _ _ = ⊥

pub numbered-itself : (o : Option Replica) → IsNumberedAs o o
numbered-itself None = tt
numbered-itself (Some r) = (refl, same-numbers r.held)

module _ (c d : Chronicle) (q : ℕ) where
  at-phase : (r s : Replica) (phase : Phase) → ((k : ℕ) → phase ≡ Regular k → (handed_talk d k q ≡ handed_talk c k q) × (said_in d k q ≡ said_in c k q)) →
      s.state ≡ r.state → SameNumbers r.held s.held → AreNumberedAt c q phase r → AreNumberedAt d q phase s
  at-phase r s Down same state numbers are = tt
  at-phase r s Alone same state numbers are = tt
  at-phase r s (Transitional k set) same state numbers are = tt
  at-phase r s (Regular k) same state numbers are =
      (let both = same k refl in subst (AreNumbered d k q s.held) (sym state) (numbered-same c d k q both.0 both.1 r.held s.held numbers r.state are))

  -- a replica in its phase
  pub numbered-at : (phase : Phase) → ((k : ℕ) → phase ≡ Regular k → (handed_talk d k q ≡ handed_talk c k q) × (said_in d k q ≡ said_in c k q)) →
      (o u : Option Replica) → IsNumberedAs o u → IfSome o (AreNumberedAt c q phase) → IfSome u (AreNumberedAt d q phase)
  numbered-at phase same None None alike are = tt
  numbered-at phase same None (Some s) alike are = absurd alike
  numbered-at phase same (Some r) None alike are = absurd alike
  numbered-at phase same (Some r) (Some s) alike are = at-phase r s phase same alike.0 alike.1 are

-- ---- fronts of what was said

pub contents-front : (greens : List Action) (xs ys : List Msg) → AreContents greens (xs ++ ys) → AreContents greens xs
contents-front greens [] ys are = tt
contents-front greens (m ∷ xs) ys are = (are.0, contents-front greens xs ys are.1)

pub contents-both : (greens : List Action) (xs ys : List Msg) → AreContents greens xs → AreContents greens ys → AreContents greens (xs ++ ys)
contents-both greens [] ys a b = b
contents-both greens (m ∷ xs) ys a b = (a.0, contents-both greens xs ys a.1 b)

-- these actions are numbered in a row behind so many
abbrev pub AreInRow : ℕ → List Action → Type 0
AreInRow n acts = map (λ a. a.id.index) acts ≡ count_up (suc n) (length acts)

pub row-front : (n : ℕ) (xs ys : List Action) → AreInRow n (xs ++ ys) → AreInRow n xs
row-front n [] ys row = refl
row-front n (a ∷ xs) ys row =
    ap₂ (λ x zs. x ∷ zs) (ap first row) (row-front (suc n) xs ys (ap rest row)) where
      first : List ℕ → ℕ
      first [] = 0
      first (x ∷ list) = x

      rest : List ℕ → List ℕ
      rest [] = []
      rest (x ∷ list) = list
