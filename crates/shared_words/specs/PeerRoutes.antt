-- The routes of interrupts to running peers, as the acts of their scenario set the devices.
use Rattle.std.specs.Prelude.{ℕ, ◌≡◌, ◌<◌, true, false, List, [], ◌∷◌, ◌++◌, length, get_or}
use Rattle.pci_space.specs.declared.sizes.TheConstants.{SPACE_LEN}
use Rattle.std.specs.List.{fold}
use Rattle.doorbell_irq.specs.declared.route.Route.{Route}
use Rattle.pci_space.specs.Fields.{is_access}
use Rattle.doorbell_irq.specs.Events.{Event, ConfigWritten, RegisterWritten, MsixWritten}
use Rattle.doorbell_irq.specs.Routes.{IsRoute}
use Rattle.scenario_text.specs.declared.acts.Act.{Act}
use Rattle.scenario_text.specs.declared.acts.Act.TheVariants as act
use Rattle.scenario_text.specs.Scenario.{World}
use Rattle.lawful_history.specs.Device.{devices_of}
use Rattle.shared_words.specs.declared.run_setup.RunSetup.{RunSetup}
use Rattle.shared_words.specs.Interrupts.{flag_of}

-- The route to a peer. A peer that isn't there gets no interrupt.
abbrev pub nowhere : Route
nowhere = record { vectors = 0; intx = false; one_shot = false; enabled = false }

abbrev pub route_to : List Route → ℕ → Route
route_to routes target = get_or routes target nowhere

-- These are the routes of all peers with which the words were made.
pub record AreRoutes (key : RunSetup) (routes : List Route) : Type 0 where
  pub count : length routes ≡ key.geometry.peers
  pub one_shot : (p : ℕ) → p < key.geometry.peers → flag_of key.one_shot p ≡ (route_to routes p).one_shot
  pub enabled : (p : ℕ) → p < key.geometry.peers → flag_of key.enabled p ≡ (route_to routes p).enabled

-- The device events of an act, and those of all acts, the newest first.
abbrev pub events_in : Act → List Event
events_in (act.CfgWrite p offset width value) = ConfigWritten p offset width value ∷ []
events_in (act.MsixWrite p offset value) = MsixWritten p offset value ∷ []
events_in (act.MmioWrite p offset value) = RegisterWritten p offset value ∷ []
events_in other = []

unfoldable pub events_of : List Act → List Event
events_of acts = fold (λ events a. events_in a ++ events) [] acts

-- An act that sets a device names one of `peers` peers, and a configuration write is a permitted
-- access.
abbrev pub MaySet : ℕ → Act → Type 0
MaySet peers (act.CfgWrite p offset width value) = (p < peers) × (is_access SPACE_LEN offset width ≡ true)
MaySet peers (act.MsixWrite p offset value) = p < peers
MaySet peers (act.MmioWrite p offset value) = p < peers
MaySet peers other = Unit {0}

-- These are the routes of a scenario's peers after all acts that set devices.
pub record AreRoutesOf (world : World) (routes : List Route) : Type 0 where
  pub count : length routes ≡ world.geometry.peers
  pub each : (p : ℕ) → p < world.geometry.peers → IsRoute (devices_of world) (events_of world.acts) p (route_to routes p)
