-- The fields of a queue share no byte, and are inside the section.
use Rattle.std.proofs.Common.{◌≡◌, ℕ, ◌+◌, ◌-◌, ◌*◌, ◌%◌, ◌<◌, ◌≤◌, refl, ap, arith}
use mathlib.Core.Logic.{dite}
use native.Mathlib.Decide.{dec_lt}
use Rattle.std.proofs.Math.Nat.{mul-le-mul_left}
use Rattle.split_ring.specs.Layout.{Sizes, Field, DescAddress, DescLength, DescFlags, DescNext, AvailFlags, AvailIndex, AvailEntry, UsedEvent, UsedFlags, UsedIndex, UsedId, UsedLength, AvailEvent, FrameSlot, slots_of, slot_of, data_area_start, offset_of, width_of, alignment_of, IsField, HasByte, HasBounds, QueuesAreLaidOut}
use Rattle.split_ring.proofs.QueueHasBounds.{bounds}

-- Slots of one size share no byte.
same_slot : (slot i j b : ℕ) → slot * i ≤ b → b < slot * i + slot → slot * j ≤ b → b < slot * j + slot → i ≡ j
same_slot slot i j b il ih jl jh =
    dite (dec_lt i j) (λ lt. let h : slot * (i + 1) ≤ slot * j = mul-le-mul_left slot (omega arith) in absurd (omega arith))
    (λ ge. dite (dec_lt j i) (λ lt. let h : slot * (j + 1) ≤ slot * i = mul-le-mul_left slot (omega arith) in absurd (omega arith)) (λ le. omega arith))

apart : (q : Sizes) (f g : Field) (b : ℕ) → IsField q f → IsField q g → HasByte q f b → HasByte q g b → f ≡ g
apart q (DescAddress i) (DescAddress j) b hf hg inf ing = let e : i ≡ j = omega arith in ap DescAddress e
apart q (DescLength i) (DescLength j) b hf hg inf ing = let e : i ≡ j = omega arith in ap DescLength e
apart q (DescFlags i) (DescFlags j) b hf hg inf ing = let e : i ≡ j = omega arith in ap DescFlags e
apart q (DescNext i) (DescNext j) b hf hg inf ing = let e : i ≡ j = omega arith in ap DescNext e
apart q AvailFlags AvailFlags b hf hg inf ing = refl
apart q AvailIndex AvailIndex b hf hg inf ing = refl
apart q (AvailEntry i) (AvailEntry j) b hf hg inf ing = let e : i ≡ j = omega arith in ap AvailEntry e
apart q UsedEvent UsedEvent b hf hg inf ing = refl
apart q UsedFlags UsedFlags b hf hg inf ing = refl
apart q UsedIndex UsedIndex b hf hg inf ing = refl
apart q (UsedId i) (UsedId j) b hf hg inf ing = let e : i ≡ j = omega arith in ap UsedId e
apart q (UsedLength i) (UsedLength j) b hf hg inf ing = let e : i ≡ j = omega arith in ap UsedLength e
apart q AvailEvent AvailEvent b hf hg inf ing = refl
apart q (FrameSlot i) (FrameSlot j) b hf hg inf ing = ap FrameSlot (same_slot (slot_of q) i j (b - data_area_start q) (omega arith) (omega arith) (omega arith) (omega arith))
apart q f g b hf hg inf ing = absurd (omega arith)

inside : (q : Sizes) → HasBounds q → (f : Field) → IsField q f → offset_of q f + width_of q f ≤ q.out
inside q h (FrameSlot i) hf = let l = h.slots in let g : slot_of q * (i + 1) ≤ slot_of q * slots_of q = mul-le-mul_left (slot_of q) (omega arith) in omega arith
inside q h f hf = let l = h.rings in omega arith

aligned : (q : Sizes) (f : Field) → offset_of q f % alignment_of f ≡ 0
aligned q (DescAddress i) = omega arith
aligned q (DescLength i) = omega arith
aligned q (DescFlags i) = omega arith
aligned q (DescNext i) = omega arith
aligned q AvailFlags = omega arith
aligned q AvailIndex = omega arith
aligned q (AvailEntry k) = omega arith
aligned q UsedEvent = omega arith
aligned q UsedFlags = omega arith
aligned q UsedIndex = omega arith
aligned q (UsedId k) = omega arith
aligned q (UsedLength k) = omega arith
aligned q AvailEvent = omega arith
aligned q (FrameSlot i) = omega arith

pub queues_are_laid_out : QueuesAreLaidOut
queues_are_laid_out q h =
    let b = bounds q h in
    let whole = b.size_whole in
    record {
      apart = apart q;
      inside = inside q b;
      aligned = aligned q;
      flags = λ i. omega arith;
      next = λ i. omega arith;
      avail_index = omega arith;
      entries = λ k. omega arith;
      used_event = omega arith;
      used_index = omega arith;
      avail_event = omega arith;
    }
