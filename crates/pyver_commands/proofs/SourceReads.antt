-- Sources that are read to their ends one after another, and their lines, kept by what they are.
use Rattle.std.proofs.Common.{Bor, ◌≡◌, ◌∙◌, ◌+◌, ◌-◌, ◌<◌, ◌≤◌, ℕ, List, [], ◌∷◌, ◌++◌, true, false, cond, not, Option, None, Some, IfSome, length, take, drop, get_or, map, refl, sym, ap, subst, arith, append_assoc, append-nil, length-append, take-append-drop, Bool, inl, inr}
use Rattle.std.proofs.Math.Seq.{take-nil}
use Rattle.std.proofs.lemmas.Grind.{flat_map-append}
use Rattle.std.proofs.lemmas.List.{map-append, take_more}
use Rattle.std.specs.List.{AllZip, concat}
use Rattle.std.specs.Option.{option_map_or}
use Rattle.pyver_commands.proofs.Filtering.{first-append, length-faults, version_lines-append, last_is, reads_last}
use Rattle.pyver_commands.proofs.InputOutput.{all_append, filled_lines-last, filled_lines_from-append, filled_one, some_line}
use Rattle.cli_io.specs.Newlines.{input_lines}
use Rattle.pyver_commands.specs.Sources.InputLines.{Origin, SourceLine, filled_lines, filled_lines_from, is_blank, numbered, source_lines, Source}
use Rattle.pyver_commands.specs.Sources.InvalidLines.{last_message, message_limit}
use Rattle.pyver_commands.specs.Sources.LineOptions.{is_header}
use Rattle.pyver_commands.specs.Sources.ReadLines.{Entry, Header, IsEntry, IsRead, LineReading, ReadLine, faults}
use Rattle.pyver_commands.specs.Readings.{Denotes, Fails}
use Rattle.pyver_commands.specs.Sources.SourceTexts.{size_of, source_of, GainsSource, FailsInSource, FailsInSources, FailsInText}
use Rattle.pyver_commands.specs.Sources.VersionLines.{header_text, header_with, kept_lines, kept_with, version_lines}
use Rattle.pyver_commands.specs.Sources.VersionLineViews.{IsOfLines, KeepsLines, KeepsOne, version_line_of}
use Rattle.pyver_commands.specs.declared.sources.invalid_lines.InvalidLines.{InvalidLines}
use Rattle.pyver_commands.specs.declared.sources.line_options.LineOptions.{LineOptions}
use Rattle.pyver_commands.specs.declared.sources.source_texts.SourceText.{SourceText}
use Rattle.pyver_commands.specs.declared.sources.version_line.VersionLines.{VersionLines}
use Rattle.std.specs.Io.KnownBytes.{Consumes}
use Rattle.std.specs.Str.{IsUtf8}
use Rattle.std.proofs.KnownBytes.{Consumes-nil}
use Rattle.pyver_commands.specs.Sources.RunFailures.{IsReadingFailure, IsRunFailureOf}
use Rattle.pyver_commands.specs.Sources.{KnownFile, MayOpen, ReadsAll, ReadsInput, ReadsLines, ReadsSource, ReadsText, ReadsWhole, input_name, input_origin, is_input, is_none, last_name, source_names}
use Rattle.pyver_commands.specs.declared.sources.open_failure.OpenFailure.{OpenFailure}
use Rattle.pyver_commands.specs.declared.sources.stream.RunFailure.{RunFailure}
use Rattle.pyver_commands.specs.declared.sources.stream.RunFailure.TheVariants as run_failure

header_text-append : (xs ys : List ReadLine) → header_text (xs ++ ys) ≡ header_text xs ++ header_text ys
header_text-append xs ys = flat_map-append (λ (x : ReadLine). header_with x.line x.reading) xs ys

kept_lines-append : (how : InvalidLines) (xs ys : List ReadLine) → kept_lines how (xs ++ ys) ≡ kept_lines how xs ++ kept_lines how ys
kept_lines-append how xs ys = flat_map-append (λ (x : ReadLine). kept_with how x.line.text x.reading) xs ys

-- ---- no line, and one line more

pub keeps_none : (options : LineOptions) (s : VersionLines) → s.header.items ≡ [] → s.versions.items ≡ [] → s.invalid.items ≡ [] → s.fault_count ≡ 0 → s.errors.items ≡ [] → KeepsLines options [] s
keeps_none options s header versions invalid fault errors = record {
  found = [];
  are = tt;
  header = header;
  versions = ap (map version_line_of) versions;
  invalid = ap (map (λ (t : Bor (List ℕ)). t.now)) invalid;
  fault_count = fault;
  errors = errors ∙ ap concat (sym (take-nil (message_limit options.invalid)));
}

no_faults : (options : LineOptions) (found : List ReadLine) → AllZip (IsRead options) [] found → length (faults found) ≡ 0
no_faults options [] are = refl
no_faults options (x ∷ found) are = absurd are

pub none_faults : (options : LineOptions) (s : VersionLines) → KeepsLines options [] s → s.fault_count ≡ 0
none_faults options s k = k.fault_count ∙ no_faults options k.found k.are

-- only the count of lines is new
pub record SameBut (a b : VersionLines) : Type 0 where
  pub header : b.header.items ≡ a.header.items
  pub versions : b.versions.items ≡ a.versions.items
  pub invalid : b.invalid.items ≡ a.invalid.items
  pub fault_count : b.fault_count ≡ a.fault_count
  pub errors : b.errors.items ≡ a.errors.items

pub keeps_same : (options : LineOptions) (a b : VersionLines) → SameBut a b → (lines : List SourceLine) → KeepsLines options lines a → KeepsLines options lines b
keeps_same options a b same lines k = record {
  found = k.found;
  are = k.are;
  header = same.header ∙ k.header;
  versions = ap (map version_line_of) same.versions ∙ k.versions;
  invalid = ap (map (λ (t : Bor (List ℕ)). t.now)) same.invalid ∙ k.invalid;
  fault_count = same.fault_count ∙ k.fault_count;
  errors = same.errors ∙ k.errors;
}

-- a blank line
pub keeps_blank : (options : LineOptions) (origin : Origin) (n : ℕ) (line text : List ℕ) (a b : VersionLines) → (n, text) ≡ numbered (n, line) → is_blank text ≡ true → SameBut a b
    → (lines : List SourceLine) → KeepsLines options lines a → KeepsLines options (lines ++ filled_lines_from origin n (line ∷ [])) b
keeps_blank options origin n line text a b is blank same lines k =
    let none : filled_lines_from origin n (line ∷ []) ≡ [] = filled_one origin n line text is ∙ ap (λ c. cond (not c) (record { origin = origin; number = n; text = text } ∷ []) []) blank in
    subst (λ l. KeepsLines options l b) (sym (ap (λ l. lines ++ l) none ∙ append-nil lines)) (keeps_same options a b same lines k)

-- a line that is read
pub keeps_line : (options : LineOptions) (origin : Origin) (n : ℕ) (line text : List ℕ) (reading : LineReading) (a mid b : VersionLines) → (n, text) ≡ numbered (n, line) → is_blank text ≡ false
    → IsEntry (is_header options n) options text reading → SameBut a mid
    → KeepsOne options (record { line = record { origin = origin; number = n; text = text }; reading = reading }) mid b → (lines : List SourceLine) → KeepsLines options lines a → KeepsLines options (lines ++ filled_lines_from origin n (line ∷ [])) b
keeps_line options origin n line text reading a mid b is filled reads same one lines k =
    let here : SourceLine = record { origin = origin; number = n; text = text } in
    let x : ReadLine = record { line = here; reading = reading } in
    let left : filled_lines_from origin n (line ∷ []) ≡ here ∷ [] = filled_one origin n line text is ∙ ap (λ c. cond (not c) (here ∷ []) []) filled in
    let limit = message_limit options.invalid in
    record {
      found = k.found ++ x ∷ [];
      are = subst (λ l. AllZip (IsRead options) l (k.found ++ x ∷ [])) (sym (ap (λ l. lines ++ l) left)) (all_append (IsRead options) lines k.found (here ∷ []) (x ∷ []) k.are ((refl, reads), tt));
      header = one.header ∙ ap (λ l. l ++ header_text (x ∷ [])) (same.header ∙ k.header) ∙ sym (header_text-append k.found (x ∷ []));
      versions = one.versions ∙ ap (λ l. l ++ version_lines (x ∷ [])) (ap (map version_line_of) same.versions ∙ k.versions) ∙ sym (version_lines-append k.found (x ∷ []));
      invalid = one.invalid ∙ ap (λ l. l ++ kept_lines options.invalid (x ∷ [])) (ap (map (λ (t : Bor (List ℕ)). t.now)) same.invalid ∙ k.invalid) ∙ sym (kept_lines-append options.invalid k.found (x ∷ []));
      fault_count = omega (arith, one.fault_count, same.fault_count, k.fault_count, length-faults k.found (x ∷ []));
      errors = one.errors ∙ ap (λ t. t ++ concat (take (limit - mid.fault_count) (faults (x ∷ [])))) (same.errors ∙ k.errors)
          ∙ sym (first-append limit (limit - mid.fault_count) k.found (x ∷ []) (ap (λ m. limit - m) (same.fault_count ∙ k.fault_count)));
    }

-- a line has one message at most
few_faults : (line : SourceLine) (reading : LineReading) → length (faults (record { line = line; reading = reading } ∷ [])) ≤ 1
few_faults line Header = omega arith
few_faults line (Entry (Denotes r)) = omega arith
few_faults line (Entry (Fails reason)) = omega arith

pub one_fault : (options : LineOptions) (line : SourceLine) (reading : LineReading) (a b : VersionLines) → KeepsOne options (record { line = line; reading = reading }) a b → b.fault_count ≤ a.fault_count + 1
one_fault options line reading a b k = omega (arith, k.fault_count, few_faults line reading)

-- ---- the end

pub is_of_lines : (options : LineOptions) (a b : VersionLines) → b.header.items ≡ a.header.items → b.versions.items ≡ a.versions.items → b.invalid.items ≡ a.invalid.items → b.fault_count ≡ a.fault_count
    → b.errors.items ≡ a.errors.items ++ last_message options.invalid a.fault_count → (lines : List SourceLine) → KeepsLines options lines a → IsOfLines options lines b
is_of_lines options a b header versions invalid fault errors lines k =
    let headers = header ∙ k.header in
    let read = ap (map version_line_of) versions ∙ k.versions in
    let kept = ap (map (λ (t : Bor (List ℕ)). t.now)) invalid ∙ k.invalid in
    let messages = errors ∙ ap (λ n. a.errors.items ++ last_message options.invalid n) k.fault_count ∙ ap (λ t. t ++ last_message options.invalid (length (faults k.found))) k.errors in
    record {
      found = k.found;
      are = k.are;
      fault_count = fault ∙ k.fault_count;
      parts = λ i. record { header = headers i; versions = read i; invalid = kept i; messages = messages i };
    }

-- ---- the lines of a string that are left

abbrev pub lines_left : Option (Bor (List ℕ)) → List (List ℕ)
lines_left rest = option_map_or (λ r. input_lines r.now) rest []

-- no fewer than the lines that are left
abbrev pub size_left : Option (Bor (List ℕ)) → ℕ
size_left rest = option_map_or (λ r. length r.now + 1) rest 0

pub less_left : (text : Bor (List ℕ)) (later : Option (Bor (List ℕ))) → IfSome later (λ r. length r.now < length text.now) → size_left later ≤ length text.now
less_left text None shorter = omega arith
less_left text (Some r) shorter = omega (arith, shorter)

-- the lines before those that are left were read, after others
pub record KeepsFront (options : LineOptions) (origin : Origin) (text : List ℕ) (rest : Option (Bor (List ℕ))) (a s : VersionLines) : Type 0 where
  pub ended : List (List ℕ)
  pub split : input_lines text ≡ ended ++ lines_left rest
  pub line_count : s.line_count ≡ length ended
  pub keeps : (lines : List SourceLine) → KeepsLines options lines a → KeepsLines options (lines ++ filled_lines_from origin 1 ended) s

pub front_none : (options : LineOptions) (origin : Origin) (text : Bor (List ℕ)) (s : VersionLines) → s.line_count ≡ 0 → KeepsFront options origin text.now (Some text) s s
front_none options origin text s zero = record {
  ended = [];
  split = refl;
  line_count = zero;
  keeps = λ lines k. subst (λ l. KeepsLines options l s) (sym (append-nil lines)) k;
}

pub front_more : (options : LineOptions) (origin : Origin) (text : List ℕ) (rest : Option (Bor (List ℕ))) (left : Bor (List ℕ)) (line : List ℕ) (later : Option (Bor (List ℕ))) (first a b : VersionLines) → rest ≡ Some left → input_lines left.now ≡ line ∷ lines_left later
    → b.line_count ≡ a.line_count + 1 → ((lines : List SourceLine) → KeepsLines options lines a → KeepsLines options (lines ++ filled_lines_from origin (a.line_count + 1) (line ∷ [])) b)
    → KeepsFront options origin text rest first a → KeepsFront options origin text later first b
front_more options origin text rest left line later first a b is cut next more k = record {
  ended = k.ended ++ line ∷ [];
  split = k.split ∙ ap (λ r. k.ended ++ lines_left r) is ∙ ap (λ l. k.ended ++ l) cut ∙ sym (append_assoc k.ended (line ∷ []) (lines_left later));
  line_count = omega (arith, next, k.line_count, length-append k.ended (line ∷ []));
  keeps = λ lines kept.
      let n = a.line_count + 1 in
      let all : (lines ++ filled_lines_from origin 1 k.ended) ++ filled_lines_from origin n (line ∷ []) ≡ lines ++ filled_lines_from origin 1 (k.ended ++ line ∷ []) =
      append_assoc lines (filled_lines_from origin 1 k.ended) (filled_lines_from origin n (line ∷ [])) ∙ ap (λ l. lines ++ l) (sym (filled_lines_from-append origin 1 n k.ended (line ∷ []) (omega (arith, k.line_count)))) in
      subst (λ l. KeepsLines options l b) all (more (lines ++ filled_lines_from origin 1 k.ended) (k.keeps lines kept));
}

pub front_all : (options : LineOptions) (origin : Origin) (text : List ℕ) (rest : Option (Bor (List ℕ))) (a b : VersionLines) → lines_left rest ≡ [] → KeepsFront options origin text rest a b
    → (lines : List SourceLine) → KeepsLines options lines a → KeepsLines options (lines ++ source_lines (record { origin = origin; lines = input_lines text })) b
front_all options origin text rest a b none k lines kept =
    subst (λ l. KeepsLines options (lines ++ filled_lines_from origin 1 l) b) (sym (k.split ∙ ap (λ l. k.ended ++ l) none ∙ append-nil k.ended)) (k.keeps lines kept)

-- ---- the sizes and lines of sources, one after another

pub size_of-append : (xs ys : List SourceText) → size_of (xs ++ ys) ≡ size_of xs + size_of ys
size_of-append [] ys = omega arith
size_of-append (x ∷ xs) ys = omega (arith, size_of-append xs ys)

pub size_more : (xs : List SourceText) (i : ℕ) (x d : SourceText) → i < length xs → x ≡ get_or xs i d → size_of (take (i + 1) xs) ≡ size_of (take i xs) + (length x.text.items + 1)
size_more xs i x d inside is = ap size_of (take_more xs i d inside) ∙ size_of-append (take i xs) (get_or xs i d ∷ []) ∙ ap (λ y. size_of (take i xs) + size_of (y ∷ [])) (sym is) ∙ omega arith

pub size_front : (xs : List SourceText) (i : ℕ) → size_of (take i xs) ≤ size_of xs
size_front xs i =
    let whole : size_of (take i xs ++ drop i xs) ≡ size_of xs = ap size_of (take-append-drop i xs) in
    omega (arith, size_of-append (take i xs) (drop i xs), whole)

pub lines_more : (xs : List SourceText) (i : ℕ) (x d : SourceText) → i < length xs → x ≡ get_or xs i d → filled_lines (map source_of (take (i + 1) xs)) ≡ filled_lines (map source_of (take i xs)) ++ source_lines (source_of x)
lines_more xs i x d inside is =
    ap (λ l. filled_lines (map source_of l)) (take_more xs i d inside) ∙ ap filled_lines (map-append source_of (take i xs) (get_or xs i d ∷ []))
    ∙ filled_lines-last (map source_of (take i xs)) (source_of (get_or xs i d)) ∙ ap (λ y. filled_lines (map source_of (take i xs)) ++ source_lines (source_of y)) (sym is)

-- ---- sources that are read to their ends

-- one text more
pub size_pushed : (xs : List SourceText) (x : SourceText) → size_of (xs ++ x ∷ []) ≡ size_of xs + (length x.text.items + 1)
size_pushed xs x = size_of-append xs (x ∷ []) ∙ omega arith

pub sources_pushed : (xs : List SourceText) (x : SourceText) → map source_of (xs ++ x ∷ []) ≡ map source_of xs ++ source_of x ∷ []
sources_pushed xs x = map-append source_of xs (x ∷ [])

-- ---- one source

module _ {R : Type 0} (files : List ℕ → KnownFile) (remaining : R → Option (List ℕ)) (name : List ℕ) where
  pub input_part : (why : RunFailure) (reader reader' : R) (text : List ℕ) → IsUtf8 name → is_input name ≡ true → Consumes (remaining reader) (remaining reader') text → IsReadingFailure name why → FailsInText files remaining name reader reader' why
  input_part why reader reader' text utf8 named consumed stops = inr (record {
    utf8 = utf8;
    text = text;
    rest = remaining reader';
    part = subst (λ t. ReadsText files remaining t (files name) reader reader' text (remaining reader')) (sym named) (consumed, refl);
    stops = stops;
  })

  pub file_part : {S : Type 0} (left_of : S → Option (List ℕ)) (why : RunFailure) (file file' : S) (reader : R) (text : List ℕ) → IsUtf8 name → is_input name ≡ false → MayOpen (files name) (left_of file) → Consumes (left_of file) (left_of file') text → IsReadingFailure name why
      → FailsInText files remaining name reader reader why
  file_part left_of why file file' reader text utf8 named opens consumed stops = inr (record {
    utf8 = utf8;
    text = text;
    rest = left_of file';
    part = subst (λ t. ReadsText files remaining t (files name) reader reader text (left_of file')) (sym named) (left_of file, opens, consumed, refl);
    stops = stops;
  })

  -- an allocation failed before anything was read
  pub stops_before : (reader : R) → FailsInText files remaining name reader reader run_failure.OutOfMemory
  stops_before reader = inl (refl, refl)

-- a run that stops in a source stops with its message
reading_stops : (name : List ℕ) (why : RunFailure) → IsReadingFailure name why → IsRunFailureOf (Some name) why
reading_stops name run_failure.OutOfMemory stops = tt
reading_stops name run_failure.Read stops = stops
reading_stops name (run_failure.ReadFile message) stops = stops
reading_stops name (run_failure.Output failure) stops = absurd stops
reading_stops name (run_failure.Errors failure) stops = absurd stops

module _ {R : Type 0} (files : List ℕ → KnownFile) (remaining : R → Option (List ℕ)) (origin : Origin) where
  pub source_read : (a b : List Source) (reader reader' : R) (text : List ℕ) → ReadsWhole files remaining origin.name reader reader' text → b ≡ a ++ record { origin = origin; lines = input_lines text } ∷ [] → GainsSource files remaining origin a b reader reader' None
  source_read a b reader reader' text (left, reads, end) more = (record { origin = origin; lines = input_lines text }, record { text = text; left = left; reads = reads; end = end; is = refl }, more)

  -- no line is reported
  part_read : (stop : RunFailure) (reader reader' : R) (text : List ℕ) (left : Option (List ℕ)) → ReadsText files remaining (is_input origin.name) (files origin.name) reader reader' text left → IsRunFailureOf (Some origin.name) stop → FailsInSource files remaining origin reader reader' stop
  part_read stop reader reader' text left reads stops = inr (
    record { origin = origin; lines = [] },
    record { text = text; left = left; reads = reads; rest = input_lines text; split = refl; whole = λ none. absurd (some_line text none); is = refl },
    stops,
  )

  -- an allocation failed after all was read
  pub stops_after_text : (reader reader' : R) (text : List ℕ) → ReadsWhole files remaining origin.name reader reader' text → FailsInSource files remaining origin reader reader' run_failure.OutOfMemory
  stops_after_text reader reader' text (left, reads, end) = part_read run_failure.OutOfMemory reader reader' text left reads tt

  unread : (named : Bool) (reader : R) → is_input origin.name ≡ named → FailsInSource files remaining origin reader reader run_failure.OutOfMemory
  unread true reader named = part_read run_failure.OutOfMemory reader reader [] (remaining reader) (subst (λ t. ReadsText files remaining t (files origin.name) reader reader [] (remaining reader)) (sym named) (Consumes-nil (remaining reader), refl)) tt
  unread false reader named = inl (named, refl, refl)

  pub source_stops : (why : RunFailure) (reader reader' : R) → FailsInText files remaining origin.name reader reader' why → FailsInSource files remaining origin reader reader' why
  source_stops why reader reader' (inl (memory, kept)) =
      subst (λ w. FailsInSource files remaining origin reader reader' w) (sym memory) (subst (λ r. FailsInSource files remaining origin reader r run_failure.OutOfMemory) (sym kept) (unread (is_input origin.name) reader refl))
  source_stops why reader reader' (inr k) = part_read why reader reader' k.text k.rest k.part (reading_stops origin.name why k.stops)

-- ---- one source after another

module _ {R : Type 0} (files : List ℕ → KnownFile) (remaining : R → Option (List ℕ)) (read : List (List ℕ)) (first : Bool) (next : List ℕ) (a b : List Source) (reader reader' reader'' : R) (is : first ≡ is_none read) (k : ReadsAll files remaining true read reader reader' a) where
  pub all_more : GainsSource files remaining (record { is_first = first; name = next }) a b reader' reader'' None → ReadsAll files remaining true (read ++ next ∷ []) reader reader'' b
  all_more (source, reads, more) =
      subst (ReadsAll files remaining true (read ++ next ∷ []) reader reader'') (sym more)
      (reads_last files remaining read reader reader' reader'' a next source k (subst (λ f. ReadsSource files remaining (record { is_first = f; name = next }) reader' reader'' source) is reads))

  pub all_refused : (left : List (List ℕ)) (failure : OpenFailure) → GainsSource files remaining (record { is_first = first; name = next }) a b reader' reader'' (Some failure)
      → ReadsInput files remaining (read ++ next ∷ left) reader reader'' (record { sources = b; unopened = Some (record { name = next; failure = failure }) })
  all_refused left failure (named, refuses, same, kept) = record {
    read = read;
    left = next ∷ left;
    split = refl;
    sources = subst (ReadsAll files remaining true read reader reader'') (sym same) (subst (λ r. ReadsAll files remaining true read reader r a) (sym kept) k);
    ends = (refl, named, refuses);
  }

  pub all_stopped : (left : List (List ℕ)) (why : RunFailure) → FailsInSource files remaining (record { is_first = first; name = next }) reader' reader'' why → FailsInSources files remaining (read ++ next ∷ left) reader reader'' why
  all_stopped left why (inl (named, memory, kept)) = (
    a,
    inr (memory, record { read = read; name = next; left = left; split = refl; whole = subst (λ r. ReadsAll files remaining true read reader r a) (sym kept) k }),
    subst (IsRunFailureOf (last_name a)) (sym memory) tt,
  )
  all_stopped left why (inr (part, lines, stops)) = (
    a ++ part ∷ [],
    inl (record {
      read = read;
      name = next;
      left = left;
      split = refl;
      middle = reader';
      before = a;
      whole = k;
      part = part;
      lines = subst (λ f. ReadsLines files remaining (record { is_first = f; name = next }) reader' reader'' part) is lines;
      are = refl;
    }),
    subst (λ l. IsRunFailureOf l why) (sym (last_is a part ∙ ap (λ (o : Origin). Some o.name) lines.is)) stops,
  )

module _ {R : Type 0} (files : List ℕ → KnownFile) (remaining : R → Option (List ℕ)) where
  pub all_ends : (read : List (List ℕ)) (sources : List Source) (reader reader' : R) → ReadsAll files remaining true read reader reader' sources → ReadsInput files remaining read reader reader' (record { sources = sources; unopened = None })
  all_ends read sources reader reader' k = record { read = read; left = []; split = sym (append-nil read); sources = k; ends = tt }

  -- only standard input
  pub alone_read : (names : List (List ℕ)) (a b : List Source) (reader reader' : R) → names ≡ [] → a ≡ [] → GainsSource files remaining input_origin a b reader reader' None → ReadsInput files remaining (source_names names) reader reader' (record { sources = b; unopened = None })
  alone_read names a b reader reader' empty none k =
      subst (λ n. ReadsInput files remaining (source_names n) reader reader' (record { sources = b; unopened = None })) (sym empty)
      (all_ends (source_names []) b reader reader' (all_more files remaining [] true input_name a b reader reader reader' refl (refl, none) k))

  pub alone_stopped : (names : List (List ℕ)) (stop : RunFailure) (reader reader' : R) → names ≡ [] → FailsInSource files remaining input_origin reader reader' stop → FailsInSources files remaining (source_names names) reader reader' stop
  alone_stopped names stop reader reader' empty stops =
      subst (λ n. FailsInSources files remaining (source_names n) reader reader' stop) (sym empty)
      (all_stopped files remaining [] true input_name [] [] reader reader reader' refl (refl, refl) [] stop stops)
