-- The start of a run.
use Rattle.std.proofs.Common.{◌≡◌, ◌≢◌, ℕ, zero, suc, ◌<◌, Bool, true, false, List, [], ◌∷◌, ◌++◌, length, map, refl, sym, ap, ◌∙◌, subst, arith, append-nil, eqb-true, eq-eqb, inl, inr}
use Rattle.std.specs.Prelude.{◌⊎◌, ◌==◌, if◌then◌else◌, Some, None, slice_get, slice_set, filter}
use Rattle.std.proofs.lemmas.Bool.{ne_eqb, eqb-false}
use Rattle.std.proofs.lemmas.List.{map-append, length-set}
use Rattle.std.proofs.lemmas.List.Elements.{filter-append}
use Rattle.split_ring.specs.Layout.{queue_size}
use Rattle.split_ring.specs.Faults.{IsQueueFault}
use Rattle.split_ring.specs.declared.faults.QueueFault.{QueueFault}
use Rattle.split_ring.specs.declared.faults.QueueFault.TheVariants.{BadMtu, TooSmall, NoSlot}
use Rattle.frame_bridge.specs.declared.scripts.Sent.{Sent}
use Rattle.frame_bridge.specs.declared.ports.Port.{Port}
use Rattle.frame_bridge.specs.declared.run.Run.{Run}
use Rattle.frame_bridge.specs.BridgeView.{RefinesArrivals}
use Rattle.frame_bridge.specs.Links.{link_config}
use Rattle.frame_bridge.specs.Run.{frames_of, started}
use Rattle.frame_bridge.specs.Refinement.{PortRefines, RunRefines, start_link}
use Rattle.frame_bridge.proofs.LinkInvariant.{is_link_config}
use Rattle.frame_bridge.proofs.RunAfterTurn.{get_here, get_other}
use Rattle.frame_bridge.proofs.ArrivalsAreCopied.{same_some}

-- The queue fits

pub no_fault : (fault : QueueFault) → IsQueueFault link_config.sizes fault → ⊥
no_fault (BadMtu mtu) is = is.0 (is_link_config.queue.mtu_least, is_link_config.queue.mtu_most)
no_fault (TooSmall bytes) is = let fits = is_link_config.queue.fits in let none : None ≡ queue_size 16384 = sym is.1 in absurd (cc)
no_fault (NoSlot slot room) is = let one = is_link_config.queue.one_slot in let less = is.2 in absurd (omega arith)

-- Ports

get_pushed : {A : Type 0} (xs : List A) (x : A) (k : ℕ) (y : A) → slice_get (xs ++ x ∷ []) k ≡ Some y → (slice_get xs k ≡ Some y) ⊎ (x ≡ y)
get_pushed [] x zero y is = inr (same_some x y is)
get_pushed [] x (suc k) y is = absurd (cc)
get_pushed (z ∷ xs) x zero y is = inl is
get_pushed (z ∷ xs) x (suc k) y is = get_pushed xs x k y is

pushed_if : (xs : List Port) (x : Port) (k : ℕ) (port : Port) → ((k : ℕ) (port : Port) → slice_get xs k ≡ Some port → PortRefines (start_link []) [] port) →
    PortRefines (start_link []) [] x → (slice_get xs k ≡ Some port) ⊎ (x ≡ port) → PortRefines (start_link []) [] port
pushed_if xs x k port each refines (inl here) = each k port here
pushed_if xs x k port each refines (inr same) = subst (λ (p : Port). PortRefines (start_link []) [] p) same refines

-- One more port.
pub pushed_each : (xs all : List Port) (x : Port) → all ≡ xs ++ x ∷ [] → ((k : ℕ) (port : Port) → slice_get xs k ≡ Some port → PortRefines (start_link []) [] port) →
    PortRefines (start_link []) [] x → (k : ℕ) (port : Port) → slice_get all k ≡ Some port → PortRefines (start_link []) [] port
pushed_each xs all x is each refines k port here =
    pushed_if xs x k port each refines (get_pushed xs x k port (ap (λ (l : List Port). slice_get l k) (sym is) ∙ here))

-- Frames

frames_snoc : (port : ℕ) (sent : List Sent) (s : Sent) → frames_of port (sent ++ s ∷ []) ≡ frames_of port sent ++ (if s.port == port then s.frame ∷ [] else [])
frames_snoc port sent s =
    let here : Sent → Bool = λ x. x.port == port in
    let frame : Sent → List ℕ = λ x. x.frame in
    ap (map frame) (filter-append here sent (s ∷ [])) ∙ (map-append frame (filter here sent) (filter here (s ∷ [])) ∙
    ap (λ (l : List (List ℕ)). frames_of port sent ++ l) (one_frame (s.port == port) s))
  where
    one_frame : (b : Bool) (s : Sent) → map (λ (x : Sent). x.frame) (if b then s ∷ [] else []) ≡ (if b then s.frame ∷ [] else [])
    one_frame true s = refl
    one_frame false s = refl

each_sent : (ports : ℕ) (sent : List Sent) (run : Run) (s : Sent) (new : Port) → RunRefines ports (started sent) run → s.port < ports →
    PortRefines (start_link (frames_of s.port sent ++ s.frame ∷ [])) [] new → (k : ℕ) (port : Port) (b : Bool) → (k == s.port) ≡ b →
    slice_get (slice_set run.ports.items s.port new) k ≡ Some port → PortRefines (start_link (frames_of k (sent ++ s ∷ []))) [] port
each_sent ports sent run s new refines below is k port true same here =
    let k_is : k ≡ s.port = eqb-true k s.port same in
    let port_is : new ≡ port = same_some new port (sym (get_here run.ports.items s.port new (omega (arith, refines.long))) ∙
    (ap (λ (n : ℕ). slice_get (slice_set run.ports.items s.port new) n) (sym k_is) ∙ here)) in
    let frames : frames_of k (sent ++ s ∷ []) ≡ frames_of s.port sent ++ s.frame ∷ [] =
    ap (λ (n : ℕ). frames_of n (sent ++ s ∷ [])) k_is ∙ (frames_snoc s.port sent s ∙
    ap (λ (b : Bool). frames_of s.port sent ++ (if b then s.frame ∷ [] else [])) (eq-eqb s.port s.port refl)) in
    subst (λ (fs : List (List ℕ)). PortRefines (start_link fs) [] port) (sym frames)
    (subst (λ (p : Port). PortRefines (start_link (frames_of s.port sent ++ s.frame ∷ [])) [] p) port_is is)
each_sent ports sent run s new refines below is k port false apart here =
    let ne : k ≢ s.port = eqb-false k s.port apart in
    let frames : frames_of k (sent ++ s ∷ []) ≡ frames_of k sent =
    frames_snoc k sent s ∙ (ap (λ (b : Bool). frames_of k sent ++ (if b then s.frame ∷ [] else [])) (ne_eqb s.port k (λ e. ne (sym e))) ∙ append-nil (frames_of k sent)) in
    subst (λ (fs : List (List ℕ)). PortRefines (start_link fs) [] port) (sym frames)
    (refines.each k port (sym (get_other run.ports.items s.port k new ne) ∙ here))

-- One more frame is given to its station.
pub sent_stands : (ports : ℕ) (sent : List Sent) (old new : Run) (s : Sent) (port : Port) → RunRefines ports (started sent) old → s.port < ports →
    PortRefines (start_link (frames_of s.port sent ++ s.frame ∷ [])) [] port → new.bridge ≡ old.bridge → new.text ≡ old.text →
    new.ports.items ≡ slice_set old.ports.items s.port port → RunRefines ports (started (sent ++ s ∷ [])) new
sent_stands ports sent old new s port refines below is bridge text items = record {
  bridge = subst (λ b. RefinesArrivals b []) (sym bridge) refines.bridge;
  count = ap (λ b. b.ports) bridge ∙ refines.count;
  long = ap length items ∙ (length-set old.ports.items s.port port ∙ refines.long);
  each = λ k p here. each_sent ports sent old s port refines below is k p (k == s.port) refl (ap (λ (l : List Port). slice_get l k) (sym items) ∙ here);
  text = ap (λ t. t.items) text ∙ refines.text;
}

pub map_same : {A : Type 0} (xs : List A) → map (λ x. x) xs ≡ xs
map_same [] = refl
map_same {A} (x ∷ xs) = ap (λ (l : List A). x ∷ l) (map_same xs)
