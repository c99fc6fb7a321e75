-- A turn of an end of a port.
use Rattle.std.proofs.Common.{◌≡◌, ℕ, ◌+◌, Bool, true, false, List, [], ◌∷◌, ◌++◌, length, map, sym, ap, ◌∙◌, subst, arith, append-nil, length-append}
use Rattle.std.specs.Prelude.{min}
use Rattle.std.proofs.lemmas.List.{map-append}
use Rattle.std.proofs.lemmas.List.Concat.{flat_map-append, flat_map-cons}
use Rattle.line_format.specs.Rows.{Row, line_of_row, text_of}
use Rattle.frame_bridge.specs.declared.output.Line.{Line}
use Rattle.link_endpoint.specs.declared.auto_endpoint.AutoEndpoint.{AutoEndpoint}
use Rattle.frame_bridge.specs.declared.ports.Port.{Port}
use Rattle.frame_bridge.specs.Links.{AutoEnd, Link, turned, observed_by}
use Rattle.frame_bridge.specs.Output.{pieces_of, out_row}
use Rattle.frame_bridge.specs.Refinement.{AutoEndRefines, RegionRefines, PortRefines, most_counted, delivered_if}
use Rattle.frame_bridge.proofs.Worlds.{turned_recorded, turned_other}

-- One more line.
pub text_more : (rs : List (Row Line)) (r : Row Line) → text_of pieces_of (rs ++ r ∷ []) ≡ text_of pieces_of rs ++ line_of_row pieces_of r
text_more rs r =
    flat_map-append (line_of_row pieces_of) rs (r ∷ []) ∙
    ap (λ (t : List ℕ). text_of pieces_of rs ++ t) (flat_map-cons (line_of_row pieces_of) r [] ∙ append-nil (line_of_row pieces_of r))

outs_more : (frames : List (List ℕ)) (frame : List ℕ) → text_of pieces_of (map out_row (frames ++ frame ∷ [])) ≡ text_of pieces_of (map out_row frames) ++ line_of_row pieces_of (out_row frame)
outs_more frames frame = ap (text_of pieces_of) (map-append out_row frames (frame ∷ [])) ∙ text_more (map out_row frames) (out_row frame)

pub count_more : (n m k : ℕ) → m ≡ min n most_counted → k ≡ min (m + 1) most_counted → k ≡ min (n + 1) most_counted
count_more n m k old new = omega arith

pub own_turned : (link : Link) (forwarded : List (List ℕ)) (old new : Port) → PortRefines link forwarded old → RegionRefines (turned 1 link).memory new.region →
    AutoEndRefines 1 ((turned 1 link).auto_ends 1) new.own → new.station ≡ old.station → new.outs ≡ old.outs → new.delivered ≡ old.delivered → new.forwarded ≡ old.forwarded →
    PortRefines (turned 1 link) forwarded new
own_turned link forwarded old new refines region own station outs delivered counted =
    let same : link.auto_ends 0 ≡ (turned 1 link).auto_ends 0 = sym (turned_other link 1 0 (λ e. cc)) in
    record {
      region = region;
      station = subst (λ (h : AutoEndpoint). AutoEndRefines 0 ((turned 1 link).auto_ends 0) h) (sym station) (subst (λ (p : AutoEnd). AutoEndRefines 0 p old.station) same refines.station);
      own = own;
      outs = ap (λ v. v.items) outs ∙ (refines.outs ∙ ap (λ (p : AutoEnd). text_of pieces_of (map out_row p.delivered)) same);
      delivered = delivered ∙ (refines.delivered ∙ ap (λ (p : AutoEnd). min (length p.delivered) most_counted) same);
      forwarded_is = counted ∙ refines.forwarded_is;
    }

-- The frames that the station delivered after its turn.
delivered_after : (link : Link) (recorded : Bool) (frame : List ℕ) → observed_by 0 link ≡ delivered_if recorded frame →
    ((turned 0 link).auto_ends 0).delivered ≡ (link.auto_ends 0).delivered ++ delivered_if recorded frame
delivered_after link recorded frame is = turned_recorded link 0 ∙ ap (λ (l : List (List ℕ)). (link.auto_ends 0).delivered ++ l) is

pub station_recorded : (link : Link) (forwarded : List (List ℕ)) (old new : Port) (frame : List ℕ) → PortRefines link forwarded old → RegionRefines (turned 0 link).memory new.region →
    AutoEndRefines 0 ((turned 0 link).auto_ends 0) new.station → observed_by 0 link ≡ delivered_if true frame → new.own ≡ old.own →
    new.outs.items ≡ old.outs.items ++ line_of_row pieces_of (out_row frame) → new.delivered ≡ min (old.delivered + 1) most_counted → new.forwarded ≡ old.forwarded →
    PortRefines (turned 0 link) forwarded new
station_recorded link forwarded old new frame refines region station recorded own outs delivered counted =
    let same : link.auto_ends 1 ≡ (turned 0 link).auto_ends 1 = sym (turned_other link 0 1 (λ e. cc)) in
    let frames : ((turned 0 link).auto_ends 0).delivered ≡ (link.auto_ends 0).delivered ++ frame ∷ [] = delivered_after link true frame recorded in
    let count : length ((link.auto_ends 0).delivered ++ frame ∷ []) ≡ length (link.auto_ends 0).delivered + 1 = length-append (link.auto_ends 0).delivered (frame ∷ []) in
    record {
      region = region;
      station = station;
      own = subst (λ (h : AutoEndpoint). AutoEndRefines 1 ((turned 0 link).auto_ends 1) h) (sym own) (subst (λ (p : AutoEnd). AutoEndRefines 1 p old.own) same refines.own);
      outs = outs ∙ (ap (λ (t : List ℕ). t ++ line_of_row pieces_of (out_row frame)) refines.outs ∙ (sym (outs_more (link.auto_ends 0).delivered frame) ∙
          ap (λ (fs : List (List ℕ)). text_of pieces_of (map out_row fs)) (sym frames)));
      delivered = count_more (length (link.auto_ends 0).delivered) old.delivered new.delivered refines.delivered delivered ∙
          ap (λ (n : ℕ). min n most_counted) (sym (ap length frames ∙ count));
      forwarded_is = counted ∙ refines.forwarded_is;
    }

pub station_quiet : (link : Link) (forwarded : List (List ℕ)) (old new : Port) (frame : List ℕ) → PortRefines link forwarded old → RegionRefines (turned 0 link).memory new.region →
    AutoEndRefines 0 ((turned 0 link).auto_ends 0) new.station → observed_by 0 link ≡ delivered_if false frame → new.own ≡ old.own → new.outs ≡ old.outs →
    new.delivered ≡ old.delivered → new.forwarded ≡ old.forwarded → PortRefines (turned 0 link) forwarded new
station_quiet link forwarded old new frame refines region station recorded own outs delivered counted =
    let same : link.auto_ends 1 ≡ (turned 0 link).auto_ends 1 = sym (turned_other link 0 1 (λ e. cc)) in
    let frames : ((turned 0 link).auto_ends 0).delivered ≡ (link.auto_ends 0).delivered = delivered_after link false frame recorded ∙ append-nil (link.auto_ends 0).delivered in
    record {
      region = region;
      station = station;
      own = subst (λ (h : AutoEndpoint). AutoEndRefines 1 ((turned 0 link).auto_ends 1) h) (sym own) (subst (λ (p : AutoEnd). AutoEndRefines 1 p old.own) same refines.own);
      outs = ap (λ v. v.items) outs ∙ (refines.outs ∙ ap (λ (fs : List (List ℕ)). text_of pieces_of (map out_row fs)) (sym frames));
      delivered = delivered ∙ (refines.delivered ∙ ap (λ (fs : List (List ℕ)). min (length fs) most_counted) (sym frames));
      forwarded_is = counted ∙ refines.forwarded_is;
    }
