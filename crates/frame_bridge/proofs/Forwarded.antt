-- The frames that go to a port, arrival by arrival.
use Rattle.std.proofs.Common.{◌≡◌, ℕ, Bool, false, List, [], ◌∷◌, ◌++◌, not, ◌&&◌, refl, sym, ap, ◌∙◌, append_assoc, eq-eqb}
use Rattle.std.specs.Prelude.{if◌then◌else◌}
use Rattle.std.proofs.lemmas.List.{append-nil}
use Rattle.frame_bridge.specs.Forwarding.{Arrival, destination, known_for, leads_to, is_forwarded, forwarded_after}
use Rattle.frame_bridge.specs.Laws.{Forwards}

never_back : (arrivals : List Arrival) (last : Arrival) → is_forwarded arrivals last last.port ≡ false
never_back arrivals last = ap (λ (b : Bool). not b && leads_to (known_for arrivals (destination last.frame)) last.port) (eq-eqb last.port last.port refl)

grows_after : (earlier arrivals : List Arrival) (last : Arrival) (port : ℕ) → forwarded_after earlier (arrivals ++ last ∷ []) port ≡
    forwarded_after earlier arrivals port ++ (if is_forwarded ((earlier ++ arrivals) ++ last ∷ []) last port then last.frame ∷ [] else [])
grows_after earlier [] last port =
    append-nil (if is_forwarded (earlier ++ last ∷ []) last port then last.frame ∷ [] else []) ∙
    ap (λ (l : List Arrival). if is_forwarded (l ++ last ∷ []) last port then last.frame ∷ [] else []) (sym (append-nil earlier))
grows_after earlier (a ∷ arrivals) last port =
    let first : List (List ℕ) = if is_forwarded (earlier ++ a ∷ []) a port then a.frame ∷ [] else [] in
    let rest : List (List ℕ) = forwarded_after (earlier ++ a ∷ []) arrivals port in
    let end : List (List ℕ) = if is_forwarded ((earlier ++ a ∷ arrivals) ++ last ∷ []) last port then last.frame ∷ [] else [] in
    ap (λ (l : List (List ℕ)). first ++ l)
    (grows_after (earlier ++ a ∷ []) arrivals last port ∙
    ap (λ (l : List Arrival). rest ++ (if is_forwarded (l ++ last ∷ []) last port then last.frame ∷ [] else [])) (append_assoc earlier (a ∷ []) arrivals)) ∙
    sym (append_assoc first rest end)

pub forwards : Forwards
forwards = record { never_back = never_back; grows = λ arrivals last port. grows_after [] arrivals last port }
