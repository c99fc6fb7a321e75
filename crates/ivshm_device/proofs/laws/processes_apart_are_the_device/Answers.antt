use Rattle.ivshm_device.proofs.AppliedEvents.{agrees, delivery_agrees, none_missed}
use Rattle.ivshm_device.proofs.laws.processes_apart_are_the_device.Goals as goal

pub returns : goal.returns
returns c = record {
  connected = λ w peer applied all is. (agrees w peer applied all is).connected;
  states = λ w peer applied all is. (agrees w peer applied all is).states;
  bytes = λ w peer applied all is. (agrees w peer applied all is).bytes;
  deliveries = λ w peer applied all event is. delivery_agrees w peer event applied all (agrees w peer applied all is);
  none_missed = λ w peer all event is. none_missed w peer event all is;
}
