-- The bursts that an offer writes before its index, from a word of its frame on. They are the words
-- left of the frame, the descriptor and the available entry.
use Rattle.std.specs.Prelude.{ℕ, ◌≡◌, ◌+◌, ◌-◌, ◌*◌, ◌/◌, ◌%◌, Option, Some, None, List, [], ◌∷◌, ◌++◌, length, drop, replicate}
use Rattle.split_ring.specs.Layout.{size_of, word_offset, DescAddress, AvailEntry}
use Rattle.call_grammar.specs.Ticks.{EndConfig}
use Rattle.call_grammar.specs.Places as laws
use Rattle.call_grammar.specs.Bursts.{WritesBurst, place_after}
use Rattle.call_grammar.specs.Words.{words_for}
use Rattle.tx_engine.specs.declared.ahead.Burst.{Burst}
use Rattle.tx_engine.specs.declared.ahead.Bursts.{Bursts}
use Rattle.tx_engine.specs.declared.place.Place.{Place}
use Rattle.tx_engine.specs.declared.place.Place.TheVariants.{WritingFrameWord}
use Rattle.tx_engine.specs.Sender.{Sender}

-- The bursts that are written before the index, if a word of the frame is next. They are the words
-- left of the frame, the descriptor's four words and the available entry's word.
abbrev pub bursts_at : Place → Sender → Option Bursts
bursts_at (WritingFrameWord slot at more) tx = Some record {
  frame = record { word = tx.own + (slot.address / 4 + at); count = more + 1 };
  descriptor = record { word = tx.own + word_offset tx.sizes (DescAddress slot.descriptor); count = 4 };
  entry = record { word = tx.own + word_offset tx.sizes (AvailEntry (tx.accepted % size_of tx.sizes)); count = 1 };
}
bursts_at _ tx = None

abbrev pub bursts_of : Sender → Option Bursts
bursts_of tx = bursts_at tx.place tx

-- The number of words in all bursts.
abbrev pub words_of : Bursts → ℕ
words_of s = s.frame.count + s.descriptor.count + s.entry.count

-- The bursts in order.
abbrev pub listed : Bursts → List Burst
listed s = s.frame ∷ s.descriptor ∷ s.entry ∷ []

-- The next accesses write these bursts, in order, for all values that their steps get. The first
-- bytes are the words of the first burst, the rest are the words of the others, and no byte is left
-- over.
abbrev pub WritesAll : EndConfig → laws.Place → List Burst → List ℕ → Type 0
WritesAll config place [] bytes = bytes ≡ []
WritesAll config place (burst ∷ more) bytes =
    (first : List ℕ) × (rest : List ℕ) × (bytes ≡ first ++ rest) × (length first ≡ 4 * burst.count) × WritesBurst config place burst.word first ×
    ((values : List ℕ) → length values ≡ burst.count → WritesAll config (place_after config place values) more rest)

-- The last `count` words of a frame, four bytes each, with 0 after the frame's last byte.
abbrev pub last_words : (frame : List ℕ) → (count : ℕ) → List ℕ
last_words frame count = drop (4 * (words_for (length frame) - count)) (frame ++ replicate (4 * words_for (length frame) - length frame) 0)
