-- The world after the turns so far.
use Rattle.std.proofs.Common.{◌≡◌, ℕ, suc, ◌+◌, List, [], ◌∷◌, ◌++◌, refl, sym, ap, ◌∙◌, add-one, append-nil}
use Rattle.std.specs.List.{flat_map}
use Rattle.std.proofs.lemmas.List.Concat.{flat_map-append, flat_map-cons}
use Rattle.frame_bridge.specs.Forwarding.{first_ports}
use Rattle.frame_bridge.specs.Run.{World, Turn, times, turns_of, schedule, world_after, ran}

pub ran_append : (w : World) (xs ys : List Turn) → ran w (xs ++ ys) ≡ ran (ran w xs) ys
ran_append w [] ys = refl
ran_append w (t ∷ xs) ys = ran_append (world_after w t) xs ys

pub times_none : (t : Turn) → times 0 t ≡ []
unfolding times
times_none t = refl

times_suc : (count : ℕ) (t : Turn) → times (suc count) t ≡ times count t ++ t ∷ []
unfolding times
times_suc count t = refl

pub times_more : (w : World) (count : ℕ) (t : Turn) → world_after (ran w (times count t)) t ≡ ran w (times (count + 1) t)
times_more w count t = sym (ap (λ (n : ℕ). ran w (times n t)) (add-one count) ∙ (ap (ran w) (times_suc count t) ∙ ran_append w (times count t) (t ∷ [])))

pub ports_more : (w : World) (count : ℕ) → ran (ran w (flat_map turns_of (first_ports count))) (turns_of count) ≡ ran w (flat_map turns_of (first_ports (count + 1)))
ports_more w count =
    let one : flat_map turns_of (first_ports (suc count)) ≡ flat_map turns_of (first_ports count) ++ turns_of count =
    flat_map-append turns_of (first_ports count) (count ∷ []) ∙
    ap (λ (l : List Turn). flat_map turns_of (first_ports count) ++ l) (flat_map-cons turns_of count [] ∙ append-nil (turns_of count)) in
    sym (ap (λ (n : ℕ). ran w (flat_map turns_of (first_ports n))) (add-one count) ∙ (ap (ran w) one ∙ ran_append w (flat_map turns_of (first_ports count)) (turns_of count)))

pub rounds_more : (w : World) (count ports : ℕ) → ran (ran w (schedule count ports)) (flat_map turns_of (first_ports ports)) ≡ ran w (schedule (count + 1) ports)
rounds_more w count ports =
    sym (ap (λ (n : ℕ). ran w (schedule n ports)) (add-one count) ∙ ran_append w (schedule count ports) (flat_map turns_of (first_ports ports)))
