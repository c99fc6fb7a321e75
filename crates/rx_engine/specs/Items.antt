-- The steps of a poll that a receiver completes by one call, and the accesses that it returns.
use Rattle.std.specs.Prelude.{ℕ, ◌≡◌, ◌++◌, Bool, true, false, Option, None, IfSome, List, [], ◌∷◌, length, take, flat_map}
use Rattle.split_ring.specs.declared.steps.Access.TheVariants as access
use Rattle.split_ring.specs.declared.steps.Note.TheVariants as note
use Rattle.split_ring.specs.declared.steps.WordKind.TheVariants.{Plain, IndexWrite}
use Rattle.call_grammar.specs.Ends.{End}
use Rattle.call_grammar.specs.Ticks.{EndConfig}
use Rattle.call_grammar.specs.Words.{word_bytes}
use Rattle.call_grammar.specs.Bursts.{StepsThrough, WritesBurst}
use Rattle.call_grammar.specs.Orders.{word_kind}
use Rattle.call_grammar.specs.Places as laws
use Rattle.rx_engine.specs.declared.ahead.NextRead.{NextRead}
use Rattle.rx_engine.specs.declared.ahead.FrameReturn.{FrameReturn}
use Rattle.rx_engine.specs.declared.place.Place.{Place}
use Rattle.rx_engine.specs.declared.place.Place.TheVariants.{ReadingAvailEntry, ReadingDescAddressLow, ReadingDescAddressHigh, ReadingDescLength, ReadingDescFlags}
use Rattle.rx_engine.specs.Receiver.{Receiver, reads_ahead, KeepsNumbers}
use Rattle.rx_engine.specs.Refinement.{RefinesAt, StaysOpen, rings}

-- The read of a field of an item is next: of its entry, or of a word of its descriptor.
abbrev pub is_field : Place → Bool
is_field (ReadingAvailEntry more) = true
is_field (ReadingDescAddressLow more entry) = true
is_field (ReadingDescAddressHigh more entry low) = true
is_field (ReadingDescLength more entry address) = true
is_field (ReadingDescFlags more entry address bytes) = true
is_field _ = false

-- The next read refuses this value.
abbrev pub RefusesNext : Receiver → (value : ℕ) → Type 0
RefusesNext rx value = (config : EndConfig) (end : End) (place : laws.Place) → RefinesAt rx config end place → laws.next_place config place value ≡ laws.Refusing

-- The next access reads this word, and no order is needed.
abbrev pub ReadsNext : Receiver → (word : ℕ) → Type 0
ReadsNext rx word = (config : EndConfig) (end : End) (place : laws.Place) → RefinesAt rx config end place →
    (laws.access_at config place ≡ access.Read word) × (word_kind place ≡ Plain) × (rings place ≡ false)

-- The read of a field of an item, completed by one call that returns the next read. A value that
-- passes its check is one step without a note. A value that is refused changes nothing.
pub record PassesRead (old : Receiver) (value : ℕ) (result : Option NextRead) (new : Receiver) : Type 0 where
  pub step : IfSome result (λ next. StaysOpen old value [] new)
  pub access : IfSome result (λ next. ReadsNext new next.word)
  pub count : IfSome result (λ next. next.count ≡ reads_ahead new.place)
  pub refused : result ≡ None → is_field old.place ≡ true → RefusesNext old value
  pub unchanged : result ≡ None → new ≡ old
  pub kept : KeepsNumbers old new

-- A whole frame, whose words are these bytes, is read and returned. The last of its reads has the
-- note Deliver. The writes of the used element follow, and the write of the used index, which has
-- the note Return. The receiver is `read` after the reads, and `given` after the element.
pub record ReadsAndReturns (old : Receiver) (words : List ℕ) (made : FrameReturn) (new : Receiver) : Type 0 where
  pub read : Receiver
  pub given : Receiver
  pub reads : (values : List ℕ) → words ≡ flat_map word_bytes values → StepsThrough StaysOpen old values (note.Deliver ∷ []) read
  pub frame : read.frame ≡ take made.length words
  pub element : (config : EndConfig) (end : End) (place : laws.Place) → RefinesAt read config end place →
      WritesBurst config place made.element (word_bytes made.id ++ word_bytes 1)
  pub gives : (values : List ℕ) → length values ≡ 2 → StepsThrough StaysOpen read values [] given
  pub index : (config : EndConfig) (end : End) (place : laws.Place) → RefinesAt given config end place →
      (laws.access_at config place ≡ access.Write made.index made.returned) × (word_kind place ≡ IndexWrite)
  pub returns : (value : ℕ) → StaysOpen given value (note.Return ∷ []) new
