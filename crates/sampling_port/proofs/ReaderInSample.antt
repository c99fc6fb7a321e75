-- A reader in the middle of a sample of an honest writer. The words that it read are of the latest
-- message, if that is still the one of its first look.
use Rattle.std.proofs.Common.{◌≡◌, ◌≢◌, ℕ, zero, suc, ◌+◌, ◌-◌, ◌*◌, ◌<◌, ◌≤◌, Bool, true, false, List, [], ◌∷◌, ◌++◌, length, take, min, refl, sym, ◌∙◌, ap, subst, arith, eq-eqb}
use Rattle.std.specs.Prelude.{◌==◌, nat_lt, if◌then◌else◌, Option, Some, None, slice_get, slice_index, slice_set}
use Rattle.std.proofs.lemmas.Bool.{eqb-true, eqb-false}
use Rattle.std.proofs.lemmas.Bool.Decides.{nat_tests}
use Rattle.std.proofs.lemmas.Grind.{common_steps}
use Rattle.std.proofs.lemmas.List.{length-take, length-append, take_all}
use Rattle.std.proofs.lemmas.List.Sums.{sum_by-cons}
use Rattle.call_grammar.specs.Words.{words_for, frame_word, word_bytes}
use Rattle.port_text.specs.Scenario.{World, IsWorld}
use Rattle.sampling_port.specs.declared.notes.PortField.TheVariants.{Sequence, Length}
use Rattle.sampling_port.specs.declared.notes.PortNote.TheVariants as note
use Rattle.sampling_port.specs.declared.place.Place.{Place}
use Rattle.sampling_port.specs.declared.place.Place.TheVariants as place
use Rattle.sampling_port.specs.Marks.{PortMark, Publish, Got, Nothing, Again, Refuse, marked}
use Rattle.sampling_port.specs.Calls.{is_length}
use Rattle.sampling_port.specs.Views.{PortView, closed, got, reading_place}
use Rattle.sampling_port.specs.EventRecords.{Line, Read, Wrote, Denied, Idle, Marked, mark_lines}
use Rattle.sampling_port.specs.Memory.{last_write}
use Rattle.sampling_port.specs.HistoryLaws.{is_of, is_read_of, lines_by_peer, reads_by_peer, publishes, published_by}
use Rattle.sampling_port.proofs.Bytes.{one_word}
use Rattle.sampling_port.proofs.Buffers.{head_of, length_at, data_at, IsMessage, IsLengthOf, Spells, Latest}
use Rattle.sampling_port.proofs.CallsArePermitted.{length_place_least}
use Rattle.std.specs.List.{AllByRecursion}

-- In the lines so far, newest first: the first look of the open sample, and `count` lines of the
-- reader since then, each a read.
pub record Looking (world : World) (q p : ℕ) (past : List Line) (number count : ℕ) : Type 0 where
  pub late : List Line
  pub early : List Line
  pub is : past ≡ late ++ Read p (head_of world q) number ∷ early
  pub lines : lines_by_peer p late ≡ count
  pub reads : reads_by_peer p late ≡ count
  pub published : published_by q early ≡ number

-- A line of another peer.
pub looking_past : (world : World) (q p : ℕ) (past : List Line) (number count : ℕ) (line : Line) → is_of p line ≡ 0 → is_read_of p line ≡ 0 → Looking world q p past number count → Looking world q p (line ∷ past) number count
looking_past world q p past number count line none no_read l = record {
  late = line ∷ l.late;
  early = l.early;
  is = ap (λ ls. line ∷ ls) l.is;
  lines = let s = sum_by-cons (is_of p) line l.late in let c = l.lines in omega arith;
  reads = let s = sum_by-cons (is_read_of p) line l.late in let c = l.reads in omega arith;
  published = l.published;
}

-- A read of its own.
looking_more : (world : World) (q p : ℕ) (past : List Line) (number count word value : ℕ) → Looking world q p past number count → Looking world q p (Read p word value ∷ past) number (count + 1)
looking_more world q p past number count word value l =
    let mine : is_of p (Read p word value) ≡ 1 = rw (eq-eqb p p refl) refl in
    let mine_too : is_read_of p (Read p word value) ≡ 1 = rw (eq-eqb p p refl) refl in
    let lines = l.lines in
    let reads = l.reads in
    record {
      late = Read p word value ∷ l.late;
      early = l.early;
      is = ap (λ ls. Read p word value ∷ ls) l.is;
      lines = sum_by-cons (is_of p) (Read p word value) l.late ∙ (rw mine (omega arith));
      reads = sum_by-cons (is_read_of p) (Read p word value) l.late ∙ (rw mine_too (omega arith));
      published = l.published;
    }

-- The words read of the message with the number of the first look.

abbrev pub Number : ℕ → List (List ℕ) → Type 0
Number number done = (1 ≤ number) × (number ≤ length done)

abbrev pub Agrees : List (List ℕ) → (bytes : ℕ) → (hand : List ℕ) → ℕ → Type 0
Agrees [] bytes hand k = ⊥
Agrees (m ∷ older) bytes hand k = (bytes ≡ length m) × (hand ≡ take k m)

abbrev pub Whole : List (List ℕ) → List ℕ → Type 0
Whole [] hand = ⊥
Whole (m ∷ older) hand = hand ≡ m

-- The place of a reader's open call, if it samples the writer.
abbrev pub At : World → (q p : ℕ) → List Line → PortView → List (List ℕ) → Place → Type 0
At world q p past port done (place.AtLength from sequence) = from ≡ q → Looking world q p past sequence 0 × Number sequence done
At world q p past port done (place.AtWord from sequence bytes at more) =
    from ≡ q → Looking world q p past sequence (at + 1) × Number sequence done × (sequence ≡ length done → Agrees done bytes port.hand (4 * at))
At world q p past port done (place.AtSecond from sequence) =
    from ≡ q → Looking world q p past sequence (words_for (length port.hand) + 1) × Number sequence done × (sequence ≡ length done → Whole done port.hand)
At world q p past port done _ = Unit {0}

pub record Reader (world : World) (q p : ℕ) (past : List Line) (port : PortView) (done : List (List ℕ)) : Type 0 where
  pub last : slice_index port.lasts q ≤ length done
  pub at : At world q p past port done port.place

at_past : (world : World) (q p : ℕ) (past : List Line) (port : PortView) (done : List (List ℕ)) (line : Line) (at : Place) → is_of p line ≡ 0 → is_read_of p line ≡ 0 → At world q p past port done at → At world q p (line ∷ past) port done at
at_past world q p past port done line (place.AtLength from sequence) none no_read here = λ e. let h = here e in (looking_past world q p past sequence 0 line none no_read h.0, h.1)
at_past world q p past port done line (place.AtWord from sequence bytes k more) none no_read here = λ e. let h = here e in (looking_past world q p past sequence (k + 1) line none no_read h.0, h.1, h.2)
at_past world q p past port done line (place.AtSecond from sequence) none no_read here = λ e. let h = here e in (looking_past world q p past sequence (words_for (length port.hand) + 1) line none no_read h.0, h.1, h.2)
at_past world q p past port done line _ none no_read here = tt

pub reader_past : (world : World) (q p : ℕ) (past : List Line) (port : PortView) (done : List (List ℕ)) (line : Line) → is_of p line ≡ 0 → is_read_of p line ≡ 0 → Reader world q p past port done → Reader world q p (line ∷ past) port done
reader_past world q p past port done line none no_read r = record { last = r.last; at = at_past world q p past port done line port.place none no_read r.at }

at_published : (world : World) (q p : ℕ) (past : List Line) (port : PortView) (done : List (List ℕ)) (m : List ℕ) (at : Place) → At world q p past port done at → At world q p past port (m ∷ done) at
at_published world q p past port done m (place.AtLength from sequence) here = λ e. let h = here e in (h.0, (h.1.0, omega (arith, h.1.1)))
at_published world q p past port done m (place.AtWord from sequence bytes k more) here = λ e. let h = here e in (h.0, (h.1.0, omega (arith, h.1.1)), λ same. absurd (omega (arith, h.1.1)))
at_published world q p past port done m (place.AtSecond from sequence) here = λ e. let h = here e in (h.0, (h.1.0, omega (arith, h.1.1)), λ same. absurd (omega (arith, h.1.1)))
at_published world q p past port done m _ here = tt

-- One more message was published.
pub reader_published : (world : World) (q p : ℕ) (past : List Line) (port : PortView) (done : List (List ℕ)) (m : List ℕ) → Reader world q p past port done → Reader world q p past port (m ∷ done)
reader_published world q p past port done m r = record { last = omega (arith, r.last); at = at_published world q p past port done m port.place r.at }

-- The marks

-- The messages that a reader got from the writer, after these lines, newest first.
pub record GotFact (world : World) (q : ℕ) (messages : List (List ℕ)) (p : ℕ) (older : List Line) (number : ℕ) (message : List ℕ) : Type 0 where
  pub looked : Looking world q p older number (words_for (length message) + 2)
  pub some : 1 ≤ number
  pub message_is : slice_get messages (number - 1) ≡ Some message

abbrev pub Fact : World → ℕ → List (List ℕ) → Option Line → Line → List Line → Type 0
Fact world q messages next (Read p word value) older = word ≡ head_of world q → (value ≡ published_by q older) × (value ≡ 0 → next ≡ Some (Marked p (Nothing q)))
Fact world q messages next (Marked p (Got from number message)) older = from ≡ q → GotFact world q messages p older number message
Fact world q messages next (Marked p (Nothing from)) older = from ≡ q → published_by q older ≡ 0
Fact world q messages next (Marked p (Again from first second)) older = from ≡ q → (first < second) × (second ≡ published_by q older)
Fact world q messages next (Marked p (Refuse from field value)) older = from ≡ q → ⊥
Fact world q messages next _ older = Unit {0}

abbrev pub Facts : World → ℕ → List (List ℕ) → Option Line → List Line → Type 0
Facts world q messages next [] = Unit {0}
Facts world q messages next (line ∷ older) = Fact world q messages next line older × Facts world q messages (Some line) older

fact_before : (world : World) (q : ℕ) (messages : List (List ℕ)) (next : Option Line) (line : Line) (older : List Line) → Fact world q messages None line older → Fact world q messages next line older
fact_before world q messages next (Read p word value) older fact = λ e. let f = fact e in (f.0, λ zero_. absurd (never (f.1 zero_)))
  where
    never : {A : Type 0} {x : A} → None ≡ Some x → ⊥
    never e = cc
fact_before world q messages next (Marked p (Got from number message)) older fact = fact
fact_before world q messages next (Marked p (Nothing from)) older fact = fact
fact_before world q messages next (Marked p (Again from first second)) older fact = fact
fact_before world q messages next (Marked p (Refuse from field value)) older fact = fact
fact_before world q messages next (Marked p (Publish number)) older fact = tt
fact_before world q messages next (Wrote p word value) older fact = tt
fact_before world q messages next (Denied p word) older fact = tt
fact_before world q messages next (Idle p) older fact = tt

-- A fact with no next line is a fact with any next line.
pub facts_before : (world : World) (q : ℕ) (messages : List (List ℕ)) (next : Option Line) (past : List Line) → Facts world q messages None past → Facts world q messages next past
facts_before world q messages next [] facts = tt
facts_before world q messages next (line ∷ older) facts = (fact_before world q messages next line older facts.0, facts.1)

-- A read of a sample

-- After a read of this value with this mark: the reader is at its next place, and the lines keep
-- their facts.
pub record Looked (world : World) (q p : ℕ) (messages : List (List ℕ)) (past : List Line) (word value : ℕ) (mark : Option PortMark) (new : PortView) (done : List (List ℕ)) : Type 0 where
  pub reader : Reader world q p (mark_lines p mark ++ Read p word value ∷ past) new done
  pub facts : Facts world q messages None (mark_lines p mark ++ Read p word value ∷ past)

-- A call that has ended.
over : (world : World) (q p : ℕ) (past : List Line) (port : PortView) (done : List (List ℕ)) → slice_index port.lasts q ≤ length done → Reader world q p past (closed port) done
over world q p past port done last = record { last = last; at = tt }

-- The facts known of all peers before the read.
pub record Before (world : World) (q : ℕ) (messages : List (List ℕ)) (past : List Line) (done : List (List ℕ)) : Type 0 where
  pub sequence : last_write past (head_of world q) ≡ length done
  pub latest : Latest world q past done
  pub lengths : (number : ℕ) → 1 ≤ number → number ≤ length done → IsLengthOf world.most (last_write past (length_at world q number))
  pub sizes : AllByRecursion (IsMessage world) done
  pub counted : published_by q past ≡ length done
  pub facts : Facts world q messages None past
  pub newest : (m : List ℕ) (older : List (List ℕ)) → done ≡ m ∷ older → slice_get messages (length older) ≡ Some m

pub published_read : (q p word value : ℕ) (past : List Line) → published_by q (Read p word value ∷ past) ≡ published_by q past
published_read q p word value past = let s = sum_by-cons (publishes q) (Read p word value) past in omega arith

-- The first look

pub first_look : (world : World) (q p : ℕ) (messages : List (List ℕ)) (past : List Line) (port : PortView) (done : List (List ℕ)) (value : ℕ) (b c : Bool) → Before world q messages past done → slice_index port.lasts q ≤ length done →
    value ≡ length done → nat_lt value (slice_index port.lasts q) ≡ b → (value == 0) ≡ c →
    Looked world q p messages past (head_of world q) value (marked q port.hand (if b then Some (note.Refuse Sequence value) else if c then Some note.Nothing else None))
    (if b then closed port else if c then closed port else record port { place = place.AtLength q value }) done
first_look world q p messages past port done value true c before last same less zero_ = absurd (too_low value (slice_index port.lasts q) (length done) less same last)
  where
    too_low : (v l n : ℕ) → nat_lt v l ≡ true → v ≡ n → l ≤ n → ⊥
    too_low v l n less same last = grind (arith, nat_tests)
first_look world q p messages past port done value false true before last same less zero_ =
    let none : value ≡ 0 = eqb-true _ _ zero_ in
    let counted = before.counted in
    record {
      reader = over world q p _ port done last;
      facts = ((λ e. published_read q p (head_of world q) value past ∙ (omega arith)), ((λ e. (omega arith, λ z. refl)), facts_before world q messages _ past before.facts));
    }
first_look world q p messages past port done value false false before last same less zero_ =
    let some : value ≢ 0 = eqb-false _ _ zero_ in
    let counted = before.counted in
    record {
      reader = record {
        last = last;
        at = λ e. (record { late = []; early = past; is = refl; lines = refl; reads = refl; published = counted ∙ sym same }, (positive value some, omega arith));
      };
      facts = ((λ e. (omega arith, λ z. absurd (some z))), facts_before world q messages _ past before.facts);
    }
  where
    positive : (n : ℕ) → n ≢ 0 → 1 ≤ n
    positive zero some = absurd (some refl)
    positive (suc n) some = omega arith

-- The length

length_true : (most bytes : ℕ) → IsLengthOf most bytes → is_length most bytes ≡ true
length_true most bytes is = let low = is.0 in let high = is.1 in grind (arith, nat_tests)

-- The place after the length is that of the first word.
at_reading : (world : World) (q p : ℕ) (past : List Line) (port : PortView) (done : List (List ℕ)) (sequence bytes at count : ℕ) (hand : List ℕ) → Looking world q p past sequence (at + 1) → Number sequence done → at + count ≡ words_for bytes →
    (0 < count → sequence ≡ length done → Agrees done bytes hand (4 * at)) → (count ≡ 0 → words_for (length hand) ≡ at) → (count ≡ 0 → sequence ≡ length done → Whole done hand) →
    At world q p past (record port { place = reading_place q sequence bytes at count; hand = hand }) done (reading_place q sequence bytes at count)
at_reading world q p past port done sequence bytes at zero hand looking number all agrees size whole = λ e. (subst (λ (k : ℕ). Looking world q p past sequence (k + 1)) (sym (size refl)) looking, number, whole refl)
at_reading world q p past port done sequence bytes at (suc more) hand looking number all agrees size whole = λ e. (looking, number, agrees (omega arith))

pub length_look : (world : World) (q p : ℕ) (messages : List (List ℕ)) (past : List Line) (port : PortView) (done : List (List ℕ)) (sequence value : ℕ) (b : Bool) → IsWorld world → port.most ≡ world.most → Before world q messages past done → Reader world q p past port done →
    Looking world q p past sequence 0 → Number sequence done → value ≡ last_write past (length_at world q sequence) → is_length port.most value ≡ b →
    Looked world q p messages past (length_at world q sequence) value (marked q port.hand (if b then None else Some (note.Refuse Length value)))
    (if b then record port { place = reading_place q sequence value 0 (words_for value); hand = [] } else closed port) done
length_look world q p messages past port done sequence value false is most before reader looking number same wrong =
    let fits : IsLengthOf world.most value = subst (λ (k : ℕ). IsLengthOf world.most k) (sym same) (before.lengths sequence number.0 number.1) in
    absurd (never (sym wrong ∙ (rw most (length_true world.most value fits))))
  where
    never : false ≡ true → ⊥
    never e = cc
length_look world q p messages past port done sequence value true is most before reader looking number same fits =
    let ok : IsLengthOf world.most value = subst (λ (k : ℕ). IsLengthOf world.most k) (sym same) (before.lengths sequence number.0 number.1) in
    let one : 0 < words_for value = omega (arith, ok.0) in
    let least = length_place_least world.most sequence in
    record {
      reader = record {
        last = reader.last;
        at = at_reading world q p _ port done sequence value 0 (words_for value) [] (looking_more world q p past sequence 0 (length_at world q sequence) value looking) number (omega arith) (λ some newest. agrees done newest before.latest before.sizes)
            (λ none. absurd (omega arith)) (λ none. absurd (omega arith));
      };
      facts = ((λ e. absurd (omega arith)), facts_before world q messages _ past before.facts);
    }
  where
    agrees : (ms : List (List ℕ)) → sequence ≡ length ms → Latest world q past ms → AllByRecursion (IsMessage world) ms → Agrees ms value [] (4 * 0)
    agrees [] newest latest sizes = absurd (omega (arith, number.0))
    agrees (m ∷ older) newest latest sizes =
        let n : sequence ≡ length older + 1 = omega arith in
        (same ∙ ap (λ k. last_write past (length_at world q k)) n ∙ latest.0, refl)

-- A word

words_more : (bytes most at more : ℕ) → at + more + 1 ≡ words_for bytes → 4 * at ≤ bytes
words_more bytes most at more all = omega arith

pub word_look : (world : World) (q p : ℕ) (messages : List (List ℕ)) (past : List Line) (port : PortView) (done : List (List ℕ)) (sequence bytes k more value : ℕ) → Before world q messages past done → Reader world q p past port done →
    length port.hand ≡ 4 * k → k + more + 1 ≡ words_for bytes →
    Looking world q p past sequence (k + 1) → Number sequence done → (sequence ≡ length done → Agrees done bytes port.hand (4 * k)) → value ≡ last_write past (data_at world q sequence k) →
    Looked world q p messages past (data_at world q sequence k) value None (record port { place = reading_place q sequence bytes (k + 1) more; hand = take bytes (port.hand ++ word_bytes value) }) done
word_look world q p messages past port done sequence bytes k more value before reader full all looking number agrees same =
    let least = length_place_least world.most sequence in
    let hand = take bytes (port.hand ++ word_bytes value) in
    let size = length-take bytes (port.hand ++ word_bytes value) in
    let both = length-append port.hand (word_bytes value) in
    record {
      reader = record {
        last = reader.last;
        at = at_reading world q p _ port done sequence bytes (k + 1) more hand (looking_more world q p past sequence (k + 1) (data_at world q sequence k) value looking) number (omega arith)
            (λ some newest. next done newest (agrees newest) before.latest before.sizes)
            (λ none. whole_size none size both) (λ none newest. last_word done none newest (agrees newest) before.latest before.sizes);
      };
      facts = ((λ e. absurd (omega arith)), facts_before world q messages _ past before.facts);
    }
  where
    whole_size : more ≡ 0 → length (take bytes (port.hand ++ word_bytes value)) ≡ min bytes (length (port.hand ++ word_bytes value)) → length (port.hand ++ word_bytes value) ≡ length port.hand + 4 → words_for (length (take bytes (port.hand ++ word_bytes value))) ≡ k + 1
    whole_size none size both = omega arith

    word_is : (m : List ℕ) (older : List (List ℕ)) → sequence ≡ length older + 1 → bytes ≡ length m → Spells world q past (length older + 1) m → value ≡ frame_word m k
    word_is m older n size spells = same ∙ ap (λ i. last_write past (data_at world q i k)) n ∙ spells.1 k (omega arith)

    next : (ms : List (List ℕ)) → sequence ≡ length ms → Agrees ms bytes port.hand (4 * k) → Latest world q past ms → AllByRecursion (IsMessage world) ms → Agrees ms bytes (take bytes (port.hand ++ word_bytes value)) (4 * (k + 1))
    next [] newest agrees latest sizes = absurd agrees
    next (m ∷ older) newest agrees latest sizes =
        let v = word_is m older (omega arith) agrees.0 latest in
        let size = agrees.0 in (
          agrees.0,
          ap (λ b. take b (port.hand ++ word_bytes value)) agrees.0 ∙ ap (λ h. take (length m) (h ++ word_bytes value)) agrees.1 ∙ ap (λ x. take (length m) (take (4 * k) m ++ word_bytes x)) v ∙ one_word m k sizes.0.2 (omega arith),
        )

    last_word : (ms : List (List ℕ)) → more ≡ 0 → sequence ≡ length ms → Agrees ms bytes port.hand (4 * k) → Latest world q past ms → AllByRecursion (IsMessage world) ms → Whole ms (take bytes (port.hand ++ word_bytes value))
    last_word [] none newest agrees latest sizes = absurd agrees
    last_word (m ∷ older) none newest agrees latest sizes =
        let size = agrees.0 in
        (next (m ∷ older) newest agrees latest sizes).1 ∙ take_all (4 * (k + 1)) m (omega arith)

-- The second look

second_got : (lasts : List ℕ) (q number : ℕ) → q < length lasts → slice_index (slice_set lasts q number) q ≡ number
second_got lasts q number below = grind (arith, common_steps, nat_tests)

pub second_look : (world : World) (q p : ℕ) (messages : List (List ℕ)) (past : List Line) (port : PortView) (done : List (List ℕ)) (sequence value : ℕ) (b : Bool) → q < length port.lasts → Before world q messages past done → Reader world q p past port done →
    Looking world q p past sequence (words_for (length port.hand) + 1) → Number sequence done → (sequence ≡ length done → Whole done port.hand) → value ≡ length done → (value == sequence) ≡ b →
    Looked world q p messages past (head_of world q) value (marked q port.hand (if b then Some (note.Got sequence) else Some (note.Again sequence value)))
    (if b then got port q sequence else closed port) done
second_look world q p messages past port done sequence value true below before reader looking number whole same is =
    let stays : value ≡ sequence = eqb-true _ _ is in
    let newest : sequence ≡ length done = sym stays ∙ same in
    let counted = before.counted in
    record {
      reader = record { last = omega (arith, second_got port.lasts q sequence below); at = tt };
      facts = (
        (λ e. record {
          looked = subst (λ (n : ℕ). Looking world q p (Read p (head_of world q) value ∷ past) sequence n) (omega arith) (looking_more world q p past sequence (words_for (length port.hand) + 1) (head_of world q) value looking);
          some = number.0;
          message_is = the_message done newest (whole newest) before.newest;
        }),
        ((λ e. (omega arith, λ z. absurd (omega (arith, number.0)))), facts_before world q messages _ past before.facts),
      );
    }
  where
    the_message : (ms : List (List ℕ)) → sequence ≡ length ms → Whole ms port.hand → ((m : List ℕ) (older : List (List ℕ)) → ms ≡ m ∷ older → slice_get messages (length older) ≡ Some m) → slice_get messages (sequence - 1) ≡ Some port.hand
    the_message [] newest whole known = absurd whole
    the_message (m ∷ older) newest whole known =
        let n : sequence - 1 ≡ length older = omega arith in
        ap (λ i. slice_get messages i) n ∙ known m older refl ∙ ap Some (sym whole)
second_look world q p messages past port done sequence value false below before reader looking number whole same is =
    let changed : value ≢ sequence = eqb-false _ _ is in
    let counted = before.counted in
    record {
      reader = over world q p _ port done reader.last;
      facts = (
        (λ e. (later sequence value (length done) number.1 same changed, omega (arith, published_read q p (head_of world q) value past))),
        ((λ e. (omega arith, λ z. absurd (omega (arith, number)))), facts_before world q messages _ past before.facts),
      );
    }
  where
    later : (s v n : ℕ) → s ≤ n → v ≡ n → v ≢ s → s < v
    later s v n few same changed = grind (arith, nat_tests)
