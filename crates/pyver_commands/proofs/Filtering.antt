-- Lines of a source that are filtered one after another, and what is written of them; and sources that are read and filtered one after another.
use Rattle.std.proofs.Common.{◌≡◌, ◌∙◌, ◌+◌, ◌-◌, ℕ, zero, suc, List, [], ◌∷◌, ◌++◌, true, false, cond, not, Option, length, take, refl, sym, ap, subst, arith, append_assoc, append-nil, length-append, ◌<◌, ◌==◌, Bool, None, Some, inl, inr, map, get_or, drop, take-append-drop, ne_eqb}
use Rattle.std.proofs.KnownBytes.{Appends-nil, Appends-trans, Consumes-nil, Consumes-trans}
use Rattle.std.proofs.lemmas.Grind.{flat_map-append}
use Rattle.std.proofs.lemmas.List.Elements.{filter-append}
use Rattle.std.proofs.lemmas.List.Folds.{concat-append}
use Rattle.std.proofs.Math.Seq.{take-nil}
use Rattle.std.specs.Io.KnownBytes.{Appends, Consumes, IsAtEnd}
use Rattle.std.specs.List.{AllZip, concat, filter, flat_map}
use Rattle.pyver_commands.proofs.InputOutput.{all_append, cuts_all, cuts_more, filled_lines_from-append, filled_one, no_newline_none, some_line, filled_lines-last, no_lines}
use Rattle.pyver_commands.specs.FilterSteps.{SplitsLines, Goes, Keeps, KeepsMore, SourceFinishes, SourceFails, Steps, StepsBy, Wrote, WroteSome, AllFinish, AllFail, FilterFinishes, FilterFails, FinishesBy, OneReads, OneIsUnopened, OneFails, WroteAll}
use Rattle.pep440_rs.specs.LiteralMatching.{list_allows_literally}
use Rattle.pyver_commands.specs.Filters.{is_printed, is_wanted, printed_lines, filter_outcome}
use Rattle.cli_io.specs.Newlines.{input_lines}
use Rattle.pyver_commands.specs.Sources.InputLines.{SourceLine, Origin, Source, filled_lines_from, is_blank, numbered}
use Rattle.pyver_commands.specs.Sources.InvalidLines.{message_limit, last_message, lines_status}
use Rattle.pyver_commands.specs.Sources.LineOptions.{is_header}
use Rattle.pyver_commands.specs.Sources.ReadLines.{Entry, IsEntry, IsRead, LineReading, ReadLine, fault_at, faults}
use Rattle.pyver_commands.specs.AnswerViews.{KeepsNewest}
use Rattle.pyver_commands.specs.Readings.{Denotes}
use Rattle.cli_io.specs.Streams.{WroteBeginning}
use Rattle.pyver_commands.specs.Sources.VersionLines.{VersionLine, line_with, version_lines}
use Rattle.pyver_commands.specs.declared.filter.FilterRule.{FilterRule}
use Rattle.pyver_commands.specs.declared.filter.FilterState.{FilterState}
use Rattle.pyver_commands.specs.declared.filter.Selection.TheVariants as wanted
use Rattle.pyver_commands.specs.declared.newest_lines.KeptLine.{KeptLine}
use Rattle.pep440_version.specs.Record.{Record}
use Rattle.std.proofs.lemmas.List.{drop_more, map-append, take_more}
use Rattle.pyver_commands.specs.Sources.RunFailures.{IsRunFailureOf}
use Rattle.pyver_commands.specs.Sources.{KnownFile, MayOpen, ReadsAll, ReadsSource, ReadsText, UnopenedSource, input_name, input_origin, is_input, is_none, last_name, source_names, unopened_message, unopened_status}
use Rattle.pyver_commands.specs.declared.sources.open_failure.OpenFailure.{OpenFailure}
use Rattle.pyver_commands.specs.declared.sources.stream.RunFailure.{RunFailure}

-- ---- what is asked for by some lines and then by others

pub printed_lines-append : (rule : FilterRule) (xs ys : List ReadLine) → printed_lines rule (xs ++ ys) ≡ printed_lines rule xs ++ printed_lines rule ys
printed_lines-append rule xs ys =
    let test = λ (x : ReadLine). is_printed rule x.line.origin.is_first x.reading in
    let print = λ (x : ReadLine). x.line.text ++ 10 ∷ [] in
    ap (flat_map print) (filter-append test xs ys) ∙ flat_map-append print (filter test xs) (filter test ys)

pub faults-append : (xs ys : List ReadLine) → faults (xs ++ ys) ≡ faults xs ++ faults ys
faults-append xs ys = flat_map-append (λ (x : ReadLine). fault_at x.line x.reading) xs ys

take-append : {X : Type 0} (n : ℕ) (xs ys : List X) → take n (xs ++ ys) ≡ take n xs ++ take (n - length xs) ys
take-append zero xs ys = let e : 0 ≡ 0 - length xs = omega arith in ap (λ m. take m ys) e
take-append (suc n) [] ys = let e : suc n ≡ suc n - 0 = omega arith in ap (λ m. take m ys) e
take-append (suc n) (x ∷ xs) ys = let e : n - length xs ≡ suc n - suc (length xs) = omega arith in ap (λ l. x ∷ l) (take-append n xs ys ∙ ap (λ m. take n xs ++ take m ys) e)

pub first-append : (n m : ℕ) (xs ys : List ReadLine) → m ≡ n - length (faults xs) → concat (take n (faults (xs ++ ys))) ≡ concat (take n (faults xs)) ++ concat (take m (faults ys))
first-append n m xs ys e =
    ap (λ l. concat (take n l)) (faults-append xs ys) ∙ ap concat (take-append n (faults xs) (faults ys) ∙ ap (λ k. take n (faults xs) ++ take k (faults ys)) (sym e))
    ∙ concat-append (take n (faults xs)) (take m (faults ys))

pub version_lines-append : (xs ys : List ReadLine) → version_lines (xs ++ ys) ≡ version_lines xs ++ version_lines ys
version_lines-append xs ys = flat_map-append (λ (x : ReadLine). line_with x.line.text x.reading) xs ys

pub length-faults : (xs ys : List ReadLine) → length (faults (xs ++ ys)) ≡ length (faults xs) + length (faults ys)
length-faults xs ys = ap length (faults-append xs ys) ∙ length-append (faults xs) (faults ys)

-- ---- the newest lines

keeps_none : (rule : FilterRule) (a : Option KeptLine) → KeepsMore rule [] a a
keeps_none rule a is front k = subst (λ l. Keeps rule l a) (sym (append-nil front)) k

pub keeps_all : (rule : FilterRule) (xs ys : List ReadLine) (a b c : Option KeptLine) → KeepsMore rule xs a b → KeepsMore rule ys b c → KeepsMore rule (xs ++ ys) a c
keeps_all rule xs ys a b c k m is front h = subst (λ l. Keeps rule l c) (append_assoc front xs ys) (m is (front ++ xs) (k is front h))

-- a line with a version
pub keeps_version : (rule : FilterRule) (line : SourceLine) (r : Record) (a b : Option KeptLine)
    → ((lines : List VersionLine) → KeepsNewest rule.takes rule.list lines a → KeepsNewest rule.takes rule.list (lines ++ record { text = line.text; version = r } ∷ []) b) → KeepsMore rule (record { line = line; reading = Entry (Denotes r) } ∷ []) a b
keeps_version rule line r a b more is front k = subst (λ l. KeepsNewest rule.takes rule.list l b) (sym (version_lines-append front (record { line = line; reading = Entry (Denotes r) } ∷ []))) (more (version_lines front) k)

-- ---- steps

pub steps_none : (rule : FilterRule) (origin : Origin) (a : FilterState) → Steps rule origin [] a a
steps_none rule origin a = record {
  found = [];
  are = tt;
  read_count = refl;
  line_count = omega arith;
  fault_count = omega arith;
  few_faults = omega arith;
  newest = keeps_none rule a.newest;
  output = sym (append-nil a.output.items);
  errors = sym (append-nil a.errors.items) ∙ ap (λ l. a.errors.items ++ concat l) (sym (take-nil (message_limit rule.lines.invalid - a.fault_count)));
}

pub steps_more : (rule : FilterRule) (origin : Origin) (xs ys : List (List ℕ)) (a b c : FilterState) → Steps rule origin xs a b → Steps rule origin ys b c → Steps rule origin (xs ++ ys) a c
steps_more rule origin xs ys a b c k m = record {
  found = k.found ++ m.found;
  are = subst (λ l. AllZip (IsRead rule.lines) l (k.found ++ m.found)) (sym (filled_lines_from-append origin (a.line_count + 1) (b.line_count + 1) xs ys (omega (arith, k.line_count)))) (all_append (IsRead rule.lines) _ k.found _ m.found k.are m.are);
  read_count = m.read_count ∙ k.read_count;
  line_count = omega (arith, k.line_count, m.line_count, length-append xs ys);
  fault_count = omega (arith, k.fault_count, m.fault_count, length-faults k.found m.found);
  few_faults = omega (arith, k.few_faults, m.few_faults, length-append xs ys);
  newest = keeps_all rule k.found m.found a.newest b.newest c.newest k.newest m.newest;
  output = m.output ∙ ap (λ t. t ++ printed_lines rule m.found) k.output ∙ append_assoc a.output.items (printed_lines rule k.found) (printed_lines rule m.found) ∙ ap (λ t. a.output.items ++ t) (sym (printed_lines-append rule k.found m.found));
  errors = m.errors ∙ ap (λ t. t ++ concat (take (message_limit rule.lines.invalid - b.fault_count) (faults m.found))) k.errors ∙ append_assoc a.errors.items _ _
      ∙ ap (λ t. a.errors.items ++ t) (sym (first-append (message_limit rule.lines.invalid - a.fault_count) (message_limit rule.lines.invalid - b.fault_count) k.found m.found (omega (arith, k.fault_count))));
}

-- a blank line
pub steps_blank : (rule : FilterRule) (origin : Origin) (line : List ℕ) (a b : FilterState) (text : List ℕ) → (a.line_count + 1, text) ≡ numbered (a.line_count + 1, line) → is_blank text ≡ true
    → b.read_count ≡ a.read_count → b.line_count ≡ a.line_count + 1 → b.fault_count ≡ a.fault_count → b.newest ≡ a.newest → b.output.items ≡ a.output.items → b.errors.items ≡ a.errors.items → Steps rule origin (line ∷ []) a b
steps_blank rule origin line a b text is blank reads count fault newest output errors =
    let none : filled_lines_from origin (a.line_count + 1) (line ∷ []) ≡ [] = filled_one origin (a.line_count + 1) line text is ∙ ap (λ c. cond (not c) (record { origin = origin; number = a.line_count + 1; text = text } ∷ []) []) blank in
    record {
      found = [];
      are = subst (λ l. AllZip (IsRead rule.lines) l []) (sym none) tt;
      read_count = reads;
      line_count = count;
      fault_count = omega (arith, fault);
      few_faults = omega (arith, fault);
      newest = subst (λ n. KeepsMore rule [] a.newest n) (sym newest) (keeps_none rule a.newest);
      output = output ∙ sym (append-nil a.output.items);
      errors = errors ∙ sym (append-nil a.errors.items) ∙ ap (λ l. a.errors.items ++ concat l) (sym (take-nil (message_limit rule.lines.invalid - a.fault_count)));
    }

-- a line that is read
pub steps_line : (rule : FilterRule) (origin : Origin) (line : List ℕ) (a mid b : FilterState) (text : List ℕ) (x : LineReading) → (a.line_count + 1, text) ≡ numbered (a.line_count + 1, line) → is_blank text ≡ false → IsEntry (is_header rule.lines (a.line_count + 1)) rule.lines text x
    → mid.read_count ≡ a.read_count → mid.line_count ≡ a.line_count + 1 → mid.fault_count ≡ a.fault_count → mid.newest ≡ a.newest → mid.output.items ≡ a.output.items → mid.errors.items ≡ a.errors.items
    → StepsBy rule (record { line = record { origin = origin; number = mid.line_count; text = text }; reading = x }) mid b → Steps rule origin (line ∷ []) a b
steps_line rule origin line a mid b text x is filled reads read count fault newest output errors k =
    let n = a.line_count + 1 in
    let e : ReadLine = record { line = record { origin = origin; number = mid.line_count; text = text }; reading = x } in
    let here : SourceLine = record { origin = origin; number = n; text = text } in
    let left : filled_lines_from origin n (line ∷ []) ≡ here ∷ [] = filled_one origin n line text is ∙ ap (λ b. cond (not b) (here ∷ []) []) filled in
    record {
      found = e ∷ [];
      are = subst (λ l. AllZip (IsRead rule.lines) l (e ∷ [])) (sym left) ((ap (λ (m : ℕ). record { origin = origin; number = m; text = text }) count, reads), tt);
      read_count = k.read_count ∙ read;
      line_count = k.line_count ∙ count;
      fault_count = k.fault_count ∙ ap (λ m. m + length (faults (e ∷ []))) fault;
      few_faults = omega (arith, k.few_faults, fault);
      newest = subst (λ n. KeepsMore rule (e ∷ []) n b.newest) newest k.newest;
      output = k.output ∙ ap (λ t. t ++ printed_lines rule (e ∷ [])) output;
      errors = k.errors ∙ ap (λ t. t ++ concat (take (message_limit rule.lines.invalid - mid.fault_count) (faults (e ∷ [])))) errors ∙ ap (λ m. a.errors.items ++ concat (take (message_limit rule.lines.invalid - m) (faults (e ∷ [])))) fault;
    }

-- a version that is kept and not printed
pub steps_kept : (rule : FilterRule) (line : SourceLine) (r : Record) (a b : FilterState) → rule.wanted ≡ wanted.Newest → b.read_count ≡ a.read_count → b.line_count ≡ a.line_count → b.fault_count ≡ a.fault_count → b.output.items ≡ a.output.items → b.errors.items ≡ a.errors.items
    → ((lines : List VersionLine) → KeepsNewest rule.takes rule.list lines a.newest → KeepsNewest rule.takes rule.list (lines ++ record { text = line.text; version = r } ∷ []) b.newest) → StepsBy rule (record { line = line; reading = Entry (Denotes r) }) a b
steps_kept rule line r a b is reads count fault output errors more =
    let x : ReadLine = record { line = line; reading = Entry (Denotes r) } in
    let unprinted : printed_lines rule (x ∷ []) ≡ [] = ap (λ w. flat_map (λ (y : ReadLine). y.line.text ++ 10 ∷ []) (cond (is_wanted w (list_allows_literally rule.takes rule.list r)) (x ∷ []) [])) is in
    record {
      read_count = reads;
      line_count = count;
      fault_count = omega (arith, fault);
      few_faults = omega (arith, fault);
      newest = keeps_version rule line r a.newest b.newest more;
      output = output ∙ sym (append-nil a.output.items) ∙ ap (λ t. a.output.items ++ t) (sym unprinted);
      errors = errors ∙ sym (append-nil a.errors.items) ∙ ap (λ l. a.errors.items ++ concat l) (sym (take-nil (message_limit rule.lines.invalid - a.fault_count)));
    }

-- ---- what was written

-- a beginning after all that was written before
pub began : (a b c : Option (List ℕ)) (xs ys rest all : List ℕ) → Appends a b xs → WroteBeginning b c ys → all ≡ (xs ++ ys) ++ rest → WroteBeginning a c all
began a b c xs ys rest all wrote k is = record {
  written = xs ++ k.written;
  left = k.left ++ rest;
  wrote = Appends-trans a b c xs k.written wrote k.wrote;
  whole = is ∙ ap (λ t. (xs ++ t) ++ rest) k.whole ∙ simp append_assoc;
}

-- all of a beginning
pub wrote_front : (earlier b : Option (List ℕ)) (xs rest all : List ℕ) → Appends earlier b xs → all ≡ xs ++ rest → WroteBeginning earlier b all
wrote_front earlier b xs rest all wrote is = record { written = xs; left = rest; wrote = wrote; whole = is }

module _ {W E : Type 0} (contents : W → Option (List ℕ)) (error_contents : E → Option (List ℕ)) (rule : FilterRule) (origin : Origin) where
  pub wrote_none : (earlier : FilterState) (b : FilterState) (out : W) (err : E) → b.fault_count ≡ earlier.fault_count → b.newest ≡ earlier.newest → b.output.items ≡ [] → b.errors.items ≡ [] → Wrote contents error_contents rule (record { origin = origin; lines = [] }) earlier b out out err err
  wrote_none earlier b out err fault newest output errors = record {
    found = [];
    are = tt;
    fault_count = omega (arith, fault);
    newest = subst (λ n. KeepsMore rule [] earlier.newest n) (sym newest) (keeps_none rule earlier.newest);
    output = Appends-nil (contents out);
    errors = subst (Appends (error_contents err) (error_contents err)) (ap concat (sym (take-nil (message_limit rule.lines.invalid - earlier.fault_count)))) (Appends-nil (error_contents err));
    no_output = output;
    no_errors = errors;
  }

  pub some_of_all : (source : Source) (earlier : FilterState) (b : FilterState) (out out' : W) (err err' : E) → Wrote contents error_contents rule source earlier b out out' err err' → WroteSome contents error_contents rule source earlier out out' err err'
  some_of_all source earlier b out out' err err' k = record {
    found = k.found;
    are = k.are;
    output = wrote_front _ _ (printed_lines rule k.found) [] _ k.output (sym (append-nil (printed_lines rule k.found)));
    errors = wrote_front _ _ (concat (take (message_limit rule.lines.invalid - earlier.fault_count) (faults k.found))) [] _ k.errors (sym (append-nil _));
  }

  module _ (ended texts : List (List ℕ)) (earlier : FilterState) (b next : FilterState) (out out' out'' : W) (err err' err'' : E) (k : Wrote contents error_contents rule (record { origin = origin; lines = ended }) earlier b out out' err err') (count : b.line_count ≡ length ended)
      (s : Steps rule origin texts b next) where
    found_more : AllZip (IsRead rule.lines) (filled_lines_from origin 1 (ended ++ texts)) (k.found ++ s.found)
    found_more = subst (λ l. AllZip (IsRead rule.lines) l (k.found ++ s.found)) (sym (filled_lines_from-append origin 1 (b.line_count + 1) ended texts (omega (arith, count)))) (all_append (IsRead rule.lines) _ k.found _ s.found k.are s.are)

    printed_more : printed_lines rule (k.found ++ s.found) ≡ printed_lines rule k.found ++ next.output.items
    printed_more = printed_lines-append rule k.found s.found ∙ ap (λ t. printed_lines rule k.found ++ t) (sym (s.output ∙ ap (λ t. t ++ printed_lines rule s.found) k.no_output))

    faults_more : concat (take (message_limit rule.lines.invalid - earlier.fault_count) (faults (k.found ++ s.found))) ≡ concat (take (message_limit rule.lines.invalid - earlier.fault_count) (faults k.found)) ++ next.errors.items
    faults_more =
        first-append (message_limit rule.lines.invalid - earlier.fault_count) (message_limit rule.lines.invalid - b.fault_count) k.found s.found (omega (arith, k.fault_count))
        ∙ ap (λ t. concat (take (message_limit rule.lines.invalid - earlier.fault_count) (faults k.found)) ++ t) (sym (s.errors ∙ ap (λ t. t ++ concat (take (message_limit rule.lines.invalid - b.fault_count) (faults s.found))) k.no_errors))

    pub wrote_more : (cleared : FilterState) → Appends (contents out') (contents out'') next.output.items → Appends (error_contents err') (error_contents err'') next.errors.items
        → cleared.fault_count ≡ next.fault_count → cleared.newest ≡ next.newest → cleared.output.items ≡ [] → cleared.errors.items ≡ [] → Wrote contents error_contents rule (record { origin = origin; lines = ended ++ texts }) earlier cleared out out'' err err''
    wrote_more cleared output errors fault newest no_output no_errors = record {
      found = k.found ++ s.found;
      are = found_more;
      fault_count = omega (arith, fault, s.fault_count, k.fault_count, length-faults k.found s.found);
      newest = subst (λ n. KeepsMore rule (k.found ++ s.found) earlier.newest n) (sym newest) (keeps_all rule k.found s.found earlier.newest b.newest next.newest k.newest s.newest);
      output = subst (Appends (contents out) (contents out'')) (sym printed_more) (Appends-trans (contents out) (contents out') (contents out'') (printed_lines rule k.found) next.output.items k.output output);
      errors = subst (Appends (error_contents err) (error_contents err'')) (sym faults_more)
          (Appends-trans (error_contents err) (error_contents err') (error_contents err'') (concat (take (message_limit rule.lines.invalid - earlier.fault_count) (faults k.found))) next.errors.items k.errors errors);
      no_output = no_output;
      no_errors = no_errors;
    }

    pub some_more : WroteBeginning (contents out') (contents out'') next.output.items → WroteBeginning (error_contents err') (error_contents err'') next.errors.items
        → WroteSome contents error_contents rule (record { origin = origin; lines = ended ++ texts }) earlier out out'' err err''
    some_more output errors = record {
      found = k.found ++ s.found;
      are = found_more;
      output = began _ _ _ (printed_lines rule k.found) next.output.items [] _ k.output output (printed_more ∙ sym (append-nil (printed_lines rule k.found ++ next.output.items)));
      errors = began _ _ _ (concat (take (message_limit rule.lines.invalid - earlier.fault_count) (faults k.found))) next.errors.items [] _ k.errors errors (faults_more ∙ sym (append-nil _));
    }

-- ---- the loop over a source

-- the state where a read more was made
abbrev pub counted : FilterState → FilterState
counted s = record { read_count = s.read_count + 1; line_count = s.line_count; fault_count = s.fault_count; newest = s.newest; output = s.output; errors = s.errors }

module _ {S W E : Type 0} (remaining : S → Option (List ℕ)) (contents : W → Option (List ℕ)) (error_contents : E → Option (List ℕ)) (rule : FilterRule) (origin : Origin) where
  pub goes_none : (earlier : FilterState) (b : FilterState) (reader : S) (out : W) (err : E) (line : List ℕ) → b.line_count ≡ 0 → b.fault_count ≡ earlier.fault_count → b.newest ≡ earlier.newest → b.output.items ≡ [] → b.errors.items ≡ [] → line ≡ []
      → Goes remaining contents error_contents rule origin earlier b reader reader out out err err line
  goes_none earlier b reader out err line count fault newest output errors none = record {
    read = [];
    consumed = Consumes-nil (remaining reader);
    ended = [];
    cut = subst (SplitsLines [] []) (sym none) (record { all = λ rest. refl; one = no_newline_none });
    line_count = count;
    wrote = wrote_none contents error_contents rule origin earlier b out err fault newest output errors;
  }

  module _ (earlier : FilterState) (b : FilterState) (reader reader' : S) (out out' : W) (err err' : E) (line : List ℕ) (g : Goes remaining contents error_contents rule origin earlier b reader reader' out out' err err' line) where
    -- a read more is counted
    pub goes_counted : Goes remaining contents error_contents rule origin earlier (counted b) reader reader' out out' err err' line
    goes_counted = record {
      read = g.read;
      consumed = g.consumed;
      ended = g.ended;
      cut = g.cut;
      line_count = g.line_count;
      wrote = record {
        found = g.wrote.found;
        are = g.wrote.are;
        fault_count = g.wrote.fault_count;
        newest = g.wrote.newest;
        output = g.wrote.output;
        errors = g.wrote.errors;
        no_output = g.wrote.no_output;
        no_errors = g.wrote.no_errors;
      };
    }

    -- nothing was written of the bytes that were read
    pub stops_reading : (reader'' : S) (bytes : List ℕ) → Consumes (remaining reader') (remaining reader'') bytes → SourceFails remaining contents error_contents rule origin earlier reader reader'' out out' err err'
    stops_reading reader'' bytes took = record {
      read = g.read ++ bytes;
      consumed = Consumes-trans (remaining reader) (remaining reader') (remaining reader'') g.read bytes g.consumed took;
      front = g.ended;
      rest = input_lines (line ++ bytes);
      split = g.cut.all bytes;
      whole = λ none. absurd (some_line (line ++ bytes) none);
      wrote = some_of_all contents error_contents rule origin (record { origin = origin; lines = g.ended }) earlier b out out' err err' g.wrote;
    }

    module _ (reader'' : S) (out'' : W) (err'' : E) (next : FilterState) where
      -- more bytes were read, and what their lines ask for was written
      pub goes_more : (bytes : List ℕ) (texts : List (List ℕ)) (begun : List ℕ) (cleared : FilterState) → Consumes (remaining reader') (remaining reader'') bytes → SplitsLines (line ++ bytes) texts begun → Steps rule origin texts b next
          → Appends (contents out') (contents out'') next.output.items → Appends (error_contents err') (error_contents err'') next.errors.items
          → cleared.line_count ≡ next.line_count → cleared.fault_count ≡ next.fault_count → cleared.newest ≡ next.newest → cleared.output.items ≡ [] → cleared.errors.items ≡ []
          → Goes remaining contents error_contents rule origin earlier cleared reader reader'' out out'' err err'' begun
      goes_more bytes texts begun cleared took cut s output errors count fault newest no_output no_errors = record {
        read = g.read ++ bytes;
        consumed = Consumes-trans (remaining reader) (remaining reader') (remaining reader'') g.read bytes g.consumed took;
        ended = g.ended ++ texts;
        cut = cuts_more g.read g.ended line bytes texts begun g.cut cut;
        line_count = omega (arith, count, s.line_count, g.line_count, length-append g.ended texts);
        wrote = wrote_more contents error_contents rule origin g.ended texts earlier b next out out' out'' err err' err'' g.wrote g.line_count s cleared output errors fault newest no_output no_errors;
      }

      -- a beginning was written of what their lines ask for
      pub stops_writing : (bytes : List ℕ) (texts : List (List ℕ)) (begun : List ℕ) → Consumes (remaining reader') (remaining reader'') bytes → SplitsLines (line ++ bytes) texts begun → Steps rule origin texts b next
          → WroteBeginning (contents out') (contents out'') next.output.items → WroteBeginning (error_contents err') (error_contents err'') next.errors.items
          → SourceFails remaining contents error_contents rule origin earlier reader reader'' out out'' err err''
      stops_writing bytes texts begun took cut s output errors = record {
        read = g.read ++ bytes;
        consumed = Consumes-trans (remaining reader) (remaining reader') (remaining reader'') g.read bytes g.consumed took;
        front = g.ended ++ texts;
        rest = input_lines (begun ++ []);
        split = ap input_lines (sym (append-nil (g.read ++ bytes))) ∙ (cuts_more g.read g.ended line bytes texts begun g.cut cut).all [];
        whole = λ none. absurd (some_line (begun ++ []) none);
        wrote = some_more contents error_contents rule origin g.ended texts earlier b next out out' out'' err err' err'' g.wrote g.line_count s output errors;
      }

      -- the source ended, and all was written
      pub finishes : (cleared : FilterState) → Consumes (remaining reader') (remaining reader'') [] → IsAtEnd (remaining reader'') → Steps rule origin (line ∷ []) b next
          → Appends (contents out') (contents out'') next.output.items → Appends (error_contents err') (error_contents err'') next.errors.items
          → cleared.fault_count ≡ next.fault_count → cleared.newest ≡ next.newest → cleared.output.items ≡ [] → cleared.errors.items ≡ []
          → SourceFinishes remaining contents error_contents rule origin earlier cleared reader reader'' out out'' err err''
      finishes cleared took end s output errors fault newest no_output no_errors = record {
        read = g.read ++ [];
        consumed = Consumes-trans (remaining reader) (remaining reader') (remaining reader'') g.read [] g.consumed took;
        end = end;
        wrote = subst (λ l. Wrote contents error_contents rule (record { origin = origin; lines = l }) earlier cleared out out'' err err'') (sym (cuts_all g.read g.ended line g.cut ∙ append-nil (g.ended ++ line ∷ [])))
            (wrote_more contents error_contents rule origin g.ended (line ∷ []) earlier b next out out' out'' err err' err'' g.wrote g.line_count s cleared output errors fault newest no_output no_errors);
      }

      -- the source ended, and a beginning was written
      pub stops_finishing : Consumes (remaining reader') (remaining reader'') [] → IsAtEnd (remaining reader'') → Steps rule origin (line ∷ []) b next
          → WroteBeginning (contents out') (contents out'') next.output.items → WroteBeginning (error_contents err') (error_contents err'') next.errors.items
          → SourceFails remaining contents error_contents rule origin earlier reader reader'' out out'' err err''
      stops_finishing took end s output errors = record {
        read = g.read ++ [];
        consumed = Consumes-trans (remaining reader) (remaining reader') (remaining reader'') g.read [] g.consumed took;
        front = g.ended ++ line ∷ [];
        rest = [];
        split = cuts_all g.read g.ended line g.cut;
        whole = λ _. end;
        wrote = some_more contents error_contents rule origin g.ended (line ∷ []) earlier b next out out' out'' err err' err'' g.wrote g.line_count s output errors;
      }

-- a state before the lines of its next source are counted
abbrev pub restarted : FilterState → FilterState
restarted s = record { read_count = s.read_count; line_count = 0; fault_count = s.fault_count; newest = s.newest; output = s.output; errors = s.errors }

module _ {S W E : Type 0} (remaining : S → Option (List ℕ)) (contents : W → Option (List ℕ)) (error_contents : E → Option (List ℕ)) (rule : FilterRule) (origin : Origin) (earlier : FilterState) (reader reader' : S) (out out' : W) (err err' : E) where
  pub stops_restarted : SourceFails remaining contents error_contents rule origin (restarted earlier) reader reader' out out' err err' → SourceFails remaining contents error_contents rule origin earlier reader reader' out out' err err'
  stops_restarted k =
      let w = k.wrote in
      record { read = k.read; consumed = k.consumed; front = k.front; rest = k.rest; split = k.split; whole = k.whole; wrote = record { found = w.found; are = w.are; output = w.output; errors = w.errors } }

  pub finishes_restarted : (b : FilterState) → SourceFinishes remaining contents error_contents rule origin (restarted earlier) b reader reader' out out' err err' → SourceFinishes remaining contents error_contents rule origin earlier b reader reader' out out' err err'
  finishes_restarted b k =
      let w = k.wrote in
      record {
        read = k.read;
        consumed = k.consumed;
        end = k.end;
        wrote = record { found = w.found; are = w.are; fault_count = w.fault_count; newest = w.newest; output = w.output; errors = w.errors; no_output = w.no_output; no_errors = w.no_errors };
      }

-- ---- sources that are read and filtered one after another

pub last_is : (sources : List Source) (source : Source) → last_name (sources ++ source ∷ []) ≡ Some source.origin.name
last_is [] source = refl
last_is (s ∷ []) source = refl
last_is (s ∷ (t ∷ rest)) source = last_is (t ∷ rest) source

-- the names that were read, and the next one
pub names_more : {X : Type 0} (f : X → List ℕ) (xs : List X) (i : ℕ) (x d : X) (text : List ℕ) → i < length xs → x ≡ get_or xs i d → text ≡ f x → map f (take (i + 1) xs) ≡ map f (take i xs) ++ text ∷ []
names_more f xs i x d text inside is same =
    ap (map f) (take_more xs i d inside) ∙ map-append f (take i xs) (get_or xs i d ∷ []) ∙ ap (λ t. map f (take i xs) ++ t ∷ []) (ap f (sym is) ∙ sym same)

pub names_split : {X Y : Type 0} (f : X → Y) (xs : List X) (i : ℕ) (x d : X) (text : Y) → i < length xs → x ≡ get_or xs i d → text ≡ f x → map f xs ≡ map f (take i xs) ++ text ∷ map f (drop (i + 1) xs)
names_split f xs i x d text inside is same =
    ap (map f) (sym (take-append-drop i xs) ∙ ap (λ ys. take i xs ++ ys) (drop_more xs i d inside)) ∙ map-append f (take i xs) (get_or xs i d ∷ drop (i + 1) xs) ∙ ap (λ t. map f (take i xs) ++ t ∷ map f (drop (i + 1) xs)) (ap f (sym is) ∙ sym same)

pub not_none : (names : List (List ℕ)) (name : List ℕ) → false ≡ is_none (names ++ name ∷ [])
not_none [] name = refl
not_none (n ∷ names) name = refl

pub none_names : {X : Type 0} (f : X → List ℕ) (xs : List X) → (length xs == 0) ≡ true → map f xs ≡ []
none_names f [] e = refl
none_names f (x ∷ xs) e = let both : false ≡ true = sym (ne_eqb (length (x ∷ xs)) 0 (λ z. absurd (omega (arith, z)))) ∙ e in cc both

-- a beginning of more
begun_more : (a b : Option (List ℕ)) (xs rest all : List ℕ) → WroteBeginning a b xs → all ≡ xs ++ rest → WroteBeginning a b all
begun_more a b xs rest all k is = record {
  written = k.written;
  left = k.left ++ rest;
  wrote = k.wrote;
  whole = is ∙ ap (λ t. t ++ rest) k.whole ∙ append_assoc k.written k.left rest;
}

-- ---- one source

module _ {R W E : Type 0} (files : List ℕ → KnownFile) (remaining : R → Option (List ℕ)) (contents : W → Option (List ℕ)) (error_contents : E → Option (List ℕ)) (rule : FilterRule) (origin : Origin) (earlier : FilterState) where
  pub input_reads : (b : FilterState) (reader reader' : R) (out out' : W) (err err' : E) → is_input origin.name ≡ true → SourceFinishes remaining contents error_contents rule origin earlier b reader reader' out out' err err'
      → OneReads files remaining contents error_contents rule origin earlier b reader reader' out out' err err'
  input_reads b reader reader' out out' err err' named k = record {
    source = record { origin = origin; lines = input_lines k.read };
    reads = record {
      text = k.read;
      left = remaining reader';
      reads = subst (λ t. ReadsText files remaining t (files origin.name) reader reader' k.read (remaining reader')) (sym named) (k.consumed, refl);
      end = k.end;
      is = refl;
    };
    wrote = k.wrote;
  }

  pub input_stops : (reader reader' : R) (out out' : W) (err err' : E) (stop : RunFailure) → is_input origin.name ≡ true → SourceFails remaining contents error_contents rule origin earlier reader reader' out out' err err' → IsRunFailureOf (Some origin.name) stop
      → OneFails files remaining contents error_contents rule origin earlier reader reader' out out' err err' stop
  input_stops reader reader' out out' err err' stop named k stops = inr (record {
    source = record { origin = origin; lines = k.front };
    lines = record {
      text = k.read;
      left = remaining reader';
      reads = subst (λ t. ReadsText files remaining t (files origin.name) reader reader' k.read (remaining reader')) (sym named) (k.consumed, refl);
      rest = k.rest;
      split = k.split;
      whole = k.whole;
      is = refl;
    };
    wrote = k.wrote;
    stops = stops;
  })

  pub file_stops : {S : Type 0} (left_of : S → Option (List ℕ)) (file file' : S) (reader : R) (out out' : W) (err err' : E) (stop : RunFailure) → is_input origin.name ≡ false → MayOpen (files origin.name) (left_of file)
      → SourceFails left_of contents error_contents rule origin earlier file file' out out' err err' → IsRunFailureOf (Some origin.name) stop → OneFails files remaining contents error_contents rule origin earlier reader reader out out' err err' stop
  file_stops left_of file file' reader out out' err err' stop named opens k stops = inr (record {
    source = record { origin = origin; lines = k.front };
    lines = record {
      text = k.read;
      left = left_of file';
      reads = subst (λ t. ReadsText files remaining t (files origin.name) reader reader k.read (left_of file')) (sym named) (left_of file, opens, k.consumed, refl);
      rest = k.rest;
      split = k.split;
      whole = k.whole;
      is = refl;
    };
    wrote = k.wrote;
    stops = stops;
  })

-- ---- one source after another

module _ {R : Type 0} (files : List ℕ → KnownFile) (remaining : R → Option (List ℕ)) where
  reads_more : (first : Bool) (name : List ℕ) (names : List (List ℕ)) (reader middle reader' : R) (sources : List Source) (next : List ℕ) (source : Source) → ReadsAll files remaining first (name ∷ names) reader middle sources
      → ReadsSource files remaining (record { is_first = false; name = next }) middle reader' source → ReadsAll files remaining first (name ∷ (names ++ next ∷ [])) reader reader' (sources ++ source ∷ [])
  reads_more first name [] reader middle reader' sources next source (m, s, rest, r, (e, n), is) q =
      (m, s, source ∷ [], r, (reader', source, [], subst (λ x. ReadsSource files remaining (record { is_first = false; name = next }) x reader' source) e q, (refl, refl), refl), ap (λ l. l ++ source ∷ []) (is ∙ ap (λ t. s ∷ t) n))
  reads_more first name (n ∷ ns) reader middle reader' sources next source (m, s, rest, r, k, is) q =
      (m, s, rest ++ source ∷ [], r, reads_more false n ns m middle reader' rest next source k q, ap (λ l. l ++ source ∷ []) is)

  pub reads_last : (names : List (List ℕ)) (reader middle reader' : R) (sources : List Source) (next : List ℕ) (source : Source) → ReadsAll files remaining true names reader middle sources
      → ReadsSource files remaining (record { is_first = is_none names; name = next }) middle reader' source → ReadsAll files remaining true (names ++ next ∷ []) reader reader' (sources ++ source ∷ [])
  reads_last [] reader middle reader' sources next source (e, n) q =
      (reader', source, [], subst (λ x. ReadsSource files remaining (record { is_first = true; name = next }) x reader' source) e q, (refl, refl), ap (λ l. l ++ source ∷ []) n)
  reads_last (name ∷ names) reader middle reader' sources next source k q = reads_more true name names reader middle reader' sources next source k q

no_newest : (rule : FilterRule) (kept : Option KeptLine) → kept ≡ None → KeepsNewest rule.takes rule.list [] kept
no_newest rule kept is = subst (KeepsNewest rule.takes rule.list []) (sym is) (no_lines rule.takes rule.list)

module _ {R W E : Type 0} (files : List ℕ → KnownFile) (remaining : R → Option (List ℕ)) (contents : W → Option (List ℕ)) (error_contents : E → Option (List ℕ)) where
  -- the sources with these names were read, and all that they ask for was written
  pub record GoesOn (rule : FilterRule) (read : List (List ℕ)) (b : FilterState) (reader reader' : R) (out out' : W) (err err' : E) : Type 0 where
    pub sources : List Source
    pub reads : ReadsAll files remaining true read reader reader' sources
    pub wrote : WroteAll contents error_contents rule sources b out out' err err'

  pub goes_on_none : (rule : FilterRule) (b : FilterState) (reader : R) (out : W) (err : E) → b.fault_count ≡ 0 → b.newest ≡ None → b.output.items ≡ [] → b.errors.items ≡ [] → GoesOn rule [] b reader reader out out err err
  goes_on_none rule b reader out err fault newest output errors = record {
    sources = [];
    reads = (refl, refl);
    wrote = record {
      found = [];
      are = tt;
      fault_count = fault;
      newest = λ _. no_newest rule b.newest newest;
      output = Appends-nil (contents out);
      errors = subst (Appends (error_contents err) (error_contents err)) (ap concat (sym (take-nil (message_limit rule.lines.invalid)))) (Appends-nil (error_contents err));
      no_output = output;
      no_errors = errors;
    };
  }

  module _ (rule : FilterRule) (read : List (List ℕ)) (b : FilterState) (reader reader' reader'' : R) (out out' out'' : W) (err err' err'' : E) (k : GoesOn rule read b reader reader' out out' err err') where
    pub goes_on_more : (next : List ℕ) (c : FilterState) → OneReads files remaining contents error_contents rule (record { is_first = is_none read; name = next }) b c reader' reader'' out' out'' err' err''
        → GoesOn rule (read ++ next ∷ []) c reader reader'' out out'' err err''
    goes_on_more next c m =
        let w = k.wrote in
        let n = m.wrote in
        let limit = message_limit rule.lines.invalid in
        record {
          sources = k.sources ++ m.source ∷ [];
          reads = reads_last files remaining read reader reader' reader'' k.sources next m.source k.reads m.reads;
          wrote = record {
            found = w.found ++ n.found;
            are = subst (λ l. AllZip (IsRead rule.lines) l (w.found ++ n.found)) (sym (filled_lines-last k.sources m.source)) (all_append (IsRead rule.lines) _ w.found _ n.found w.are n.are);
            fault_count = omega (arith, n.fault_count, w.fault_count, length-faults w.found n.found);
            newest = λ wanted. n.newest wanted w.found (w.newest wanted);
            output = subst (Appends (contents out) (contents out'')) (sym (printed_lines-append rule w.found n.found)) (Appends-trans (contents out) (contents out') (contents out'') (printed_lines rule w.found) (printed_lines rule n.found) w.output n.output);
            errors = subst (Appends (error_contents err) (error_contents err'')) (sym (first-append limit (limit - b.fault_count) w.found n.found (ap (λ x. limit - x) w.fault_count)))
                (Appends-trans (error_contents err) (error_contents err') (error_contents err'') (concat (take limit (faults w.found))) (concat (take (limit - b.fault_count) (faults n.found))) w.errors n.errors);
            no_output = n.no_output;
            no_errors = n.no_errors;
          };
        }

    pub goes_on_refused : (next : List ℕ) (left : List (List ℕ)) (failure : OpenFailure) (c : FilterState) → OneIsUnopened files remaining contents error_contents (record { is_first = is_none read; name = next }) failure b c reader' reader'' out' out'' err' err''
        → AllFinish files remaining contents error_contents rule (read ++ next ∷ left) (Some (record { name = next; failure = failure })) c reader reader'' out out'' err err''
    goes_on_refused next left failure c m = record {
      sources = k.sources;
      reads = record {
        read = read;
        left = next ∷ left;
        split = refl;
        sources = subst (λ r. ReadsAll files remaining true read reader r k.sources) (sym m.reader_kept) k.reads;
        ends = (refl, m.file, m.refuses);
      };
      wrote = subst (λ s. WroteAll contents error_contents rule k.sources s out out'' err err'') (sym m.state)
          (subst (λ o. WroteAll contents error_contents rule k.sources b out o err err'') (sym m.out_kept) (subst (λ e. WroteAll contents error_contents rule k.sources b out out' err e) (sym m.err_kept) k.wrote));
    }

    pub goes_on_stops : (next : List ℕ) (left : List (List ℕ)) (why : RunFailure) → OneFails files remaining contents error_contents rule (record { is_first = is_none read; name = next }) b reader' reader'' out' out'' err' err'' why
        → AllFail files remaining contents error_contents rule (read ++ next ∷ left) reader reader'' out out'' err err'' why
    goes_on_stops next left why (inl m) =
        let w = k.wrote in
        let first = concat (take (message_limit rule.lines.invalid) (faults w.found)) in
        record {
          sources = k.sources;
          reads = inr (m.memory, record { read = read; name = next; left = left; split = refl; whole = subst (λ r. ReadsAll files remaining true read reader r k.sources) (sym m.reader_kept) k.reads });
          found = w.found;
          are = w.are;
          output = subst (λ o. WroteBeginning (contents out) (contents o) (printed_lines rule w.found)) (sym m.out_kept) (wrote_front _ _ (printed_lines rule w.found) [] _ w.output (sym (append-nil (printed_lines rule w.found))));
          errors = subst (λ e. WroteBeginning (error_contents err) (error_contents e) first) (sym m.err_kept) (wrote_front _ _ first [] _ w.errors (sym (append-nil first)));
          stops = subst (IsRunFailureOf (last_name k.sources)) (sym m.memory) tt;
        }
    goes_on_stops next left why (inr m) =
        let w = k.wrote in
        let n = m.wrote in
        let limit = message_limit rule.lines.invalid in
        record {
          sources = k.sources ++ m.source ∷ [];
          reads = inl (record { read = read; name = next; left = left; split = refl; middle = reader'; before = k.sources; whole = k.reads; part = m.source; lines = m.lines; are = refl });
          found = w.found ++ n.found;
          are = subst (λ l. AllZip (IsRead rule.lines) l (w.found ++ n.found)) (sym (filled_lines-last k.sources m.source)) (all_append (IsRead rule.lines) _ w.found _ n.found w.are n.are);
          output = began _ _ _ (printed_lines rule w.found) (printed_lines rule n.found) [] _ w.output n.output (printed_lines-append rule w.found n.found ∙ sym (append-nil (printed_lines rule w.found ++ printed_lines rule n.found)));
          errors = began _ _ _ (concat (take limit (faults w.found))) (concat (take (limit - b.fault_count) (faults n.found))) [] _ w.errors n.errors
              (first-append limit (limit - b.fault_count) w.found n.found (ap (λ x. limit - x) w.fault_count) ∙ sym (append-nil _));
          stops = subst (λ l. IsRunFailureOf l why) (sym (last_is k.sources m.source ∙ ap (λ (o : Origin). Some o.name) m.lines.is)) m.stops;
        }

  pub goes_on_ends : (rule : FilterRule) (read : List (List ℕ)) (b : FilterState) (reader reader' : R) (out out' : W) (err err' : E) → GoesOn rule read b reader reader' out out' err err'
      → AllFinish files remaining contents error_contents rule read None b reader reader' out out' err err'
  goes_on_ends rule read b reader reader' out out' err err' k = record {
    sources = k.sources;
    reads = record { read = read; left = []; split = sym (append-nil read); sources = k.reads; ends = tt };
    wrote = k.wrote;
  }

  -- ---- only standard input

  pub alone_finishes : (rule : FilterRule) (names : List (List ℕ)) (a b : FilterState) (reader reader' : R) (out out' : W) (err err' : E) → names ≡ [] → a.fault_count ≡ 0 → a.newest ≡ None → a.output.items ≡ [] → a.errors.items ≡ []
      → SourceFinishes remaining contents error_contents rule input_origin a b reader reader' out out' err err' → AllFinish files remaining contents error_contents rule (source_names names) None b reader reader' out out' err err'
  alone_finishes rule names a b reader reader' out out' err err' empty fault newest output errors k =
      subst (λ n. AllFinish files remaining contents error_contents rule (source_names n) None b reader reader' out out' err err') (sym empty)
      (goes_on_ends rule (source_names []) b reader reader' out out' err err'
      (goes_on_more rule [] a reader reader reader' out out out' err err err' (goes_on_none rule a reader out err fault newest output errors) input_name b
      (input_reads files remaining contents error_contents rule input_origin a b reader reader' out out' err err' refl k)))

  pub alone_stops : (rule : FilterRule) (names : List (List ℕ)) (a : FilterState) (reader reader' : R) (out out' : W) (err err' : E) (stop : RunFailure) → names ≡ [] → a.fault_count ≡ 0 → a.newest ≡ None → a.output.items ≡ [] → a.errors.items ≡ []
      → SourceFails remaining contents error_contents rule input_origin a reader reader' out out' err err' → IsRunFailureOf (Some input_name) stop
      → AllFail files remaining contents error_contents rule (source_names names) reader reader' out out' err err' stop
  alone_stops rule names a reader reader' out out' err err' stop empty fault newest output errors k stops =
      subst (λ n. AllFail files remaining contents error_contents rule (source_names n) reader reader' out out' err err' stop) (sym empty)
      (goes_on_stops rule [] a reader reader reader' out out out' err err err' (goes_on_none rule a reader out err fault newest output errors) input_name [] stop
      (input_stops files remaining contents error_contents rule input_origin a reader reader' out out' err err' stop refl k stops))

  -- ---- the end

  module _ (rule : FilterRule) (names : List (List ℕ)) (unopened : Option UnopenedSource) (b : FilterState) (reader reader' : R) (out out' : W) (err err' : E) (k : AllFinish files remaining contents error_contents rule names unopened b reader reader' out out' err err') where
    -- nothing more was written
    pub stops_at_end : (stop : RunFailure) → IsRunFailureOf (last_name k.sources) stop → FilterFails files remaining contents error_contents rule names reader reader' out out' err err' stop
    stops_at_end stop stops = let w = k.wrote in record {
      outcome = filter_outcome rule w.found unopened;
      stops = record { input = record { sources = k.sources; unopened = unopened }; reads = inl k.reads; is = (w.found, w.are, refl); stops = stops };
      output = wrote_front _ _ (printed_lines rule w.found) [] _ w.output (sym (append-nil (printed_lines rule w.found)));
      errors = wrote_front _ _ (concat (take (message_limit rule.lines.invalid) (faults w.found))) (last_message rule.lines.invalid (length (faults w.found)) ++ unopened_message unopened) _ w.errors refl;
    }

    module _ (out'' : W) (err'' : E) (c : FilterState) (status : ℕ) (f : FinishesBy rule unopened b c status) where
      nothing_left : c.output.items ≡ []
      nothing_left = f.output ∙ k.wrote.no_output

      messages_left : c.errors.items ≡ last_message rule.lines.invalid (length (faults k.wrote.found)) ++ unopened_message unopened
      messages_left = f.errors ∙ ap (λ t. t ++ (last_message rule.lines.invalid b.fault_count ++ unopened_message unopened)) k.wrote.no_errors ∙ ap (λ n. last_message rule.lines.invalid n ++ unopened_message unopened) k.wrote.fault_count

      pub filter_finishes : Appends (contents out') (contents out'') c.output.items → Appends (error_contents err') (error_contents err'') c.errors.items
          → FilterFinishes files remaining contents error_contents rule names reader reader' out out'' err err'' status
      filter_finishes output errors = let w = k.wrote in record {
        outcome = filter_outcome rule w.found unopened;
        is = record { input = record { sources = k.sources; unopened = unopened }; reads = k.reads; is = (w.found, w.are, refl) };
        output = subst (Appends (contents out) (contents out'')) (append-nil (printed_lines rule w.found))
            (Appends-trans (contents out) (contents out') (contents out'') (printed_lines rule w.found) [] w.output (subst (Appends (contents out') (contents out'')) nothing_left output));
        errors = Appends-trans (error_contents err) (error_contents err') (error_contents err'') (concat (take (message_limit rule.lines.invalid) (faults w.found))) (last_message rule.lines.invalid (length (faults w.found)) ++ unopened_message unopened)
            w.errors (subst (Appends (error_contents err') (error_contents err'')) messages_left errors);
        ended = f.ended ∙ ap (λ n. unopened_status unopened (lines_status rule.lines.invalid n)) w.fault_count;
        low = f.low;
      }

      -- a beginning was written
      pub stops_at_last : (stop : RunFailure) → IsRunFailureOf (last_name k.sources) stop → WroteBeginning (contents out') (contents out'') c.output.items → WroteBeginning (error_contents err') (error_contents err'') c.errors.items
          → FilterFails files remaining contents error_contents rule names reader reader' out out'' err err'' stop
      stops_at_last stop stops output errors = let w = k.wrote in record {
        outcome = filter_outcome rule w.found unopened;
        stops = record { input = record { sources = k.sources; unopened = unopened }; reads = inl k.reads; is = (w.found, w.are, refl); stops = stops };
        output = began _ _ _ (printed_lines rule w.found) c.output.items [] _ w.output output
            (sym (append-nil (printed_lines rule w.found)) ∙ sym (append-nil (printed_lines rule w.found ++ [])) ∙ ap (λ t. (printed_lines rule w.found ++ t) ++ []) (sym nothing_left));
        errors = began _ _ _ (concat (take (message_limit rule.lines.invalid) (faults w.found))) c.errors.items [] _ w.errors errors
            (ap (λ t. concat (take (message_limit rule.lines.invalid) (faults w.found)) ++ t) (sym messages_left) ∙ sym (append-nil _));
      }

  -- a run that stopped before the end of the sources
  pub stops_before : (rule : FilterRule) (names : List (List ℕ)) (reader reader' : R) (out out' : W) (err err' : E) (stop : RunFailure) → AllFail files remaining contents error_contents rule names reader reader' out out' err err' stop
      → FilterFails files remaining contents error_contents rule names reader reader' out out' err err' stop
  stops_before rule names reader reader' out out' err err' stop k = record {
    outcome = filter_outcome rule k.found None;
    stops = record { input = record { sources = k.sources; unopened = None }; reads = inr (k.reads, refl); is = (k.found, k.are, refl); stops = k.stops };
    output = k.output;
    errors = begun_more _ _ (concat (take (message_limit rule.lines.invalid) (faults k.found))) (last_message rule.lines.invalid (length (faults k.found)) ++ []) _ k.errors refl;
  }

-- the messages of a source, of equal files, and of a source that is the first or not
module _ {R W E : Type 0} (files files' : List ℕ → KnownFile) (remaining : R → Option (List ℕ)) (contents : W → Option (List ℕ)) (error_contents : E → Option (List ℕ)) (rule : FilterRule) (read : List (List ℕ)) (first : Bool) (next : List ℕ)
    (same : files' ≡ files) (is : first ≡ is_none read) where
  pub same_reads : (earlier : FilterState) (b : FilterState) (reader reader' : R) (out out' : W) (err err' : E) → OneReads files' remaining contents error_contents rule (record { is_first = first; name = next }) earlier b reader reader' out out' err err'
      → OneReads files remaining contents error_contents rule (record { is_first = is_none read; name = next }) earlier b reader reader' out out' err err'
  same_reads earlier b reader reader' out out' err err' k =
      subst (λ f. OneReads f remaining contents error_contents rule (record { is_first = is_none read; name = next }) earlier b reader reader' out out' err err') same
      (subst (λ first. OneReads files' remaining contents error_contents rule (record { is_first = first; name = next }) earlier b reader reader' out out' err err') is k)

  pub same_refuses : (failure : OpenFailure) (a b : FilterState) (reader reader' : R) (out out' : W) (err err' : E) → OneIsUnopened files' remaining contents error_contents (record { is_first = first; name = next }) failure a b reader reader' out out' err err'
      → OneIsUnopened files remaining contents error_contents (record { is_first = is_none read; name = next }) failure a b reader reader' out out' err err'
  same_refuses failure a b reader reader' out out' err err' k =
      subst (λ f. OneIsUnopened f remaining contents error_contents (record { is_first = is_none read; name = next }) failure a b reader reader' out out' err err') same
      (subst (λ first. OneIsUnopened files' remaining contents error_contents (record { is_first = first; name = next }) failure a b reader reader' out out' err err') is k)

  pub same_stops : (earlier : FilterState) (reader reader' : R) (out out' : W) (err err' : E) (stop : RunFailure) → OneFails files' remaining contents error_contents rule (record { is_first = first; name = next }) earlier reader reader' out out' err err' stop
      → OneFails files remaining contents error_contents rule (record { is_first = is_none read; name = next }) earlier reader reader' out out' err err' stop
  same_stops earlier reader reader' out out' err err' stop k =
      subst (λ f. OneFails f remaining contents error_contents rule (record { is_first = is_none read; name = next }) earlier reader reader' out out' err err' stop) same
      (subst (λ first. OneFails files' remaining contents error_contents rule (record { is_first = first; name = next }) earlier reader reader' out out' err err' stop) is k)
