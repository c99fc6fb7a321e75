-- The paths of running peers' doorbells, by the routes of the peers.
use Rattle.std.specs.Prelude.{ℕ, Bool, true, false, Option, Some, None, List, [], ◌∷◌}
use Rattle.split_ring.specs.declared.steps.Access.{Access}
use Rattle.split_ring.specs.declared.steps.Access.TheVariants as access
use Rattle.doorbell_irq.specs.declared.route.Route.{Route}
use Rattle.doorbell_irq.specs.Routes.{bit_rung}
use Rattle.peer_runner.specs.declared.doorbell_paths.DoorbellPath.{DoorbellPath}
use Rattle.peer_runner.specs.declared.doorbell_paths.DoorbellPath.TheVariants.{Silent, Direct, Guarded}
use Rattle.shared_words.specs.Actions.{Action, rang}
use Rattle.shared_words.specs.PeerRoutes.{route_to}

-- A doorbell touches no word if no interrupt would be delivered. Otherwise it sets its bit at once.
-- For a peer in one-shot mode it clears Interrupt Control first.
abbrev pub doorbell_path_by : (one_shot : Bool) → Option ℕ → DoorbellPath
doorbell_path_by one_shot None = Silent
doorbell_path_by true (Some bit) = Guarded bit
doorbell_path_by false (Some bit) = Direct bit

unfoldable pub doorbell_path_to : List Route → (target vector : ℕ) → DoorbellPath
doorbell_path_to routes target vector = doorbell_path_by (route_to routes target).one_shot (bit_rung (route_to routes target) vector)

abbrev pub is_guarded : DoorbellPath → Bool
is_guarded (Guarded bit) = true
is_guarded _ = false

abbrev pub doorbell_path_in : List Route → Access → DoorbellPath
doorbell_path_in routes (access.Ring target vector) = doorbell_path_to routes target vector
doorbell_path_in routes other = Silent

-- The ring of a doorbell.
abbrev pub rung_by : {A : Type 0} → DoorbellPath → (target : ℕ) → List (Action A)
rung_by Silent target = []
rung_by (Direct bit) target = rang target bit ∷ []
rung_by (Guarded bit) target = rang target bit ∷ []
