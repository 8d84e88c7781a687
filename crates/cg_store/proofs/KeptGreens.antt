-- Kept greens, put in one after another, and how far they reach.
use Rattle.std.proofs.Common.{◌≡◌, ℕ, List, [], ◌∷◌, ◌++◌, false, fold, append-nil, append_assoc, sym, ap, ◌∙◌}
use Rattle.cg_base.specs.declared.action_id.ActionId.{ActionId}
use Rattle.cg_base.specs.Cuts.{raise}
use Rattle.cg_action.specs.declared.action.Action.{Action}
use Rattle.cg_queue.specs.Queue.{QueueView, names_of, resumed}
use Rattle.cg_client.specs.Replica.{Held}
use Rattle.cg_store.specs.declared.resuming.GreenState.{GreenState}
use Rattle.cg_store.specs.Rebuilt.{with_kept_green, resumed_with}

-- ---- the queue

-- a queue of greens alone
abbrev flat : ℕ → List Action → List ActionId → QueueView
flat white greens cut = record { white = white; greens = greens; green_cut = cut; red_cut = cut; reds = []; yellow = [] }

abbrev holding : Held → QueueView → Held
holding h q = record h { queue = q }

greens_put : (h : Held) (white : ℕ) (had : List Action) (cut : List ActionId) (greens : List Action) →
    fold with_kept_green (holding h (flat white had cut)) greens ≡ holding h (flat white (had ++ greens) (fold raise cut (names_of greens)))
greens_put h white had cut [] = ap (λ l. holding h (flat white l cut)) (sym (append-nil had))
greens_put h white had cut (a ∷ greens) =
    greens_put h white (had ++ a ∷ []) (raise cut a.id) greens
    ∙ ap (λ l. holding h (flat white l (fold raise (raise cut a.id) (names_of greens)))) (append_assoc had (a ∷ []) greens)

-- what it holds before the greens are put in
abbrev bare : ℕ → GreenState → List ActionId → Held
bare id g cut =
    record {
      id = id;
      queue = resumed g.reached.white cut;
      yellow_valid = false;
      own = [];
      db = g.db;
      members = g.reached.members;
      prim = g.prim;
      attempt_index = g.attempt_index;
      vulnerable = g.vulnerable;
      buffered = [];
      owed = [];
    }

pub greens_resumed : (id : ℕ) (g : GreenState) (below : List ActionId) (h0 h1 : Held) → h0 ≡ bare id g below → h1 ≡ fold with_kept_green h0 g.greens → fold raise below (names_of g.greens) ≡ g.reached.cut → h1 ≡ resumed_with id g
greens_resumed id g below h0 h1 e0 e1 leads =
    let base = bare id g below in
    let cut = fold raise below (names_of g.greens) in
    let one : h1 ≡ holding base (flat g.reached.white g.greens cut) = e1 ∙ ap (λ h. fold with_kept_green h g.greens) e0 ∙ greens_put base g.reached.white [] below g.greens in
    one ∙ ap (λ c. holding base (flat g.reached.white g.greens c)) leads
