use Rattle.std.proofs.Common.{Bor, List, ℕ, ◌≡◌, ◌∙◌, sym, refl, rules, inl, inr, true, map, Some, ◌∷◌, []}
use Rattle.std.specs.Result.{is_ok}
use Rattle.std.proofs.lemmas.List.{map-append}
use Rattle.csv.specs.Reading.{Reached, default_config, strip_bom}
use Rattle.csv.specs.Records.{fields_of}
use Rattle.csv.specs.declared.parser.State.TheVariants as st
use Rattle.csv.proofs.ReadFacts.{rows-end, rows-more}
use Rattle.prta_times.proofs.RecordLists.{are-records, only-stops}
use Rattle.prta_times.proofs.records.records_in.Goals as goal

pub loop-row-init : goal.loop-row-init
unfolding Reached
loop-row-init c =
    let fr = c.from_reader-reader.ensures in
    let h = c.has_headers.ensures in
    let e = c.flexible.ensures in
    let start = c.into_iter-row-iterator.ensures.into_iter_gives ∙ refl in
    let rdr = c.into_byte_records-row-items.ensures.rdr in
    let left = c.into_byte_records-row-items.ensures.left in
    rw (start, rdr, c.new-rows.ensures.items) (record {
      trim = rw (e, h) at fr.trim ∙ c.new.ensures.trim;
      ready = inr (inr (rw (e, h) at fr.has_headers, fr.headers));
      left = left;
      config = rw (e, h) at fr.config ∙ c.new.ensures.config;
      flexible = rw e at fr.flexible;
      text = strip_bom c.args.bytes.now;
      source = fr.source;
      reached = (sym fr.state, refl);
    })

pub loop-row-preserved : goal.loop-row-preserved
loop-row-preserved c =
    let inv = c.loop-row.invariant in
    let steps = rw (c.in-Some.is, c.in-Ok.is) at (c.next.ensures.steps inv.left inv.trim) in
    let s = steps.0 inv.ready in
    let good : is_ok c.push.result ≡ true = search rules in
    let items = rw good at c.push.ensures.items in
    let m = rows-more (λ (s : Bor (List ℕ)). Some s.now) c.loop-row.row-iterator.rdr c.next.new.self.rdr (fields_of c.in-Ok.row) default_config st.StartRecord (strip_bom c.args.bytes.now) inv.text (map fields_of c.loop-row.rows.items) inv.config inv.source inv.reached s.0 in
    record {
      trim = s.0.3 ∙ inv.trim;
      ready = inl s.1;
      left = s.2;
      config = s.0.2 ∙ inv.config;
      flexible = steps.3 ∙ inv.flexible;
      text = m.0;
      source = m.1;
      reached = rw (items, map-append fields_of c.loop-row.rows.items (c.in-Ok.row ∷ [])) m.2;
    }

pub unreachable-requires : goal.unreachable-requires
unreachable-requires c =
    let inv = c.loop-row.invariant in
    let why = rw (c.in-Some.is, c.in-Err.is) at ((c.next.ensures.steps inv.left inv.trim).0 inv.ready) in
    only-stops (λ (s : Bor (List ℕ)). Some s.now) c.loop-row.row-iterator.rdr c.next.new.self.rdr c.in-Err.error.kind inv.flexible why
    (λ x e. c.in_default.not-Io x (c.kind.ensures ∙ e)) (λ e. c.in_default.not-OutOfMemory (c.kind.ensures ∙ e))

pub returns : goal.returns
returns c =
    let inv = c.loop-row.invariant in
    let s = rw c.in-None.is at ((c.next.ensures.steps inv.left inv.trim).0 inv.ready) in
    are-records default_config (strip_bom c.args.bytes.now) (map fields_of c.loop-row.rows.items)
    (c.loop-row.row-iterator.rdr.state, inv.text, inv.reached, rows-end (λ (s : Bor (List ℕ)). Some s.now) c.loop-row.row-iterator.rdr c.next.new.self.rdr [] default_config inv.text inv.config inv.source s)
