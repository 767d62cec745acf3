use Rattle.std.proofs.Common.{◌≡◌, ℕ, List, Err, Ok, Option, map, refl}
use Rattle.std.proofs.lemmas.Result.{err_from_is_err_and}
use Rattle.pep440_version.specs.declared.prerelease.Prerelease.{Prerelease}
use Rattle.pep440_version.specs.Errors.{rejection_of}
use Rattle.pep440_version.specs.Locals.{parse_local}
use Rattle.pep440_version.specs.Rejections.{Rejection}
use Rattle.pep440_version.specs.Segments.{segment}
use Rattle.pep440_version.specs.Suffixes.{parse_dev, parse_post, parse_pre}
use Rattle.pep440_version.specs.Whole.{parse_parts}
use Rattle.pep440_version.proofs.Reading.LocalAgrees.{local_takes}
use Rattle.pep440_version.proofs.Reading.Digits.{fault_on}
use Rattle.pep440_version.proofs.RoundTrip.PrintIsRead.{local_is}
use Rattle.pep440_version.proofs.Reading.WithoutMemory.{pre_too, post_too, local_too, no_local}
use Rattle.pep440_version.proofs.parse.parse_parts.Goals as goal

-- a part is rejected, after those before it
pre_rejected : (epoch : ℕ) (release text : List ℕ) (f : Rejection) → parse_pre text ≡ Err f → parse_parts epoch release text ≡ Err f
unfolding parse_parts
pre_rejected epoch release text f e = rw e refl

post_rejected : (epoch : ℕ) (release text a : List ℕ) (pre : Option Prerelease) (f : Rejection) → parse_pre text ≡ Ok (pre, a) → parse_post a ≡ Err f → parse_parts epoch release text ≡ Err f
unfolding parse_parts
post_rejected epoch release text a pre f p e = rw (p, e) refl

dev_rejected : (epoch : ℕ) (release text a b : List ℕ) (pre : Option Prerelease) (post : Option ℕ) (f : Rejection) → parse_pre text ≡ Ok (pre, a) → parse_post a ≡ Ok (post, b) → parse_dev b ≡ Err f → parse_parts epoch release text ≡ Err f
unfolding parse_parts
dev_rejected epoch release text a b pre post f p q e = rw (p, q, e) refl

local_rejected : (epoch : ℕ) (release text a b d : List ℕ) (pre : Option Prerelease) (post dev : Option ℕ) (f : Rejection) → parse_pre text ≡ Ok (pre, a) → parse_post a ≡ Ok (post, b) → parse_dev b ≡ Ok (dev, d) → parse_local d ≡ Err f
    → parse_parts epoch release text ≡ Err f
unfolding parse_parts
local_rejected epoch release text a b d pre post dev f p q r e = rw (p, q, r, e) refl

pub returns-in_err-pre-clause-reads : goal.returns-in_err-pre-clause-reads
returns-in_err-pre-clause-reads c =
    let p = err_from_is_err_and c.from_residual.result c.from_residual.ensures.1 in
    rw (p.1, p.2) (fault_on (rejection_of c.in_err-pre.field-0.0) (parse_pre c.args.text.now) (parse_parts c.args.epoch c.args.release c.args.text.now) (λ f e. pre_rejected c.args.epoch c.args.release c.args.text.now f e) c.in_err-pre.ensures.reads)

pub returns-in_err-post-clause-reads : goal.returns-in_err-post-clause-reads
returns-in_err-post-clause-reads c =
    let p = err_from_is_err_and c.from_residual-in_err-post.result c.from_residual-in_err-post.ensures.1 in
    rw (p.1, p.2) (fault_on (rejection_of c.in_err-post.field-0.0) (parse_post c.in_ok-pre.after_pre.now) (parse_parts c.args.epoch c.args.release c.args.text.now) (λ f e. post_rejected c.args.epoch c.args.release c.args.text.now c.in_ok-pre.after_pre.now c.in_ok-pre.pre f c.in_ok-pre.ensures.reads e) c.in_err-post.ensures.reads)

pub returns-in_err-dev-clause-reads : goal.returns-in_err-dev-clause-reads
returns-in_err-dev-clause-reads c =
    let p = err_from_is_err_and c.from_residual-in_err-dev.result c.from_residual-in_err-dev.ensures.1 in
    rw (p.1, p.2) (fault_on (rejection_of c.in_err-dev.field-0.0) (parse_dev c.in_ok-post.after_post.now) (parse_parts c.args.epoch c.args.release c.args.text.now) (λ f e. dev_rejected c.args.epoch c.args.release c.args.text.now c.in_ok-pre.after_pre.now c.in_ok-post.after_post.now c.in_ok-pre.pre c.in_ok-post.post f c.in_ok-pre.ensures.reads c.in_ok-post.ensures.reads e) c.in_err-dev.ensures.reads)

pub returns-in_err-local-clause-reads : goal.returns-in_err-local-clause-reads
returns-in_err-local-clause-reads c =
    let p = err_from_is_err_and c.from_residual-in_err-local.result c.from_residual-in_err-local.ensures.1 in
    rw (p.1, p.2) (fault_on (rejection_of c.in_err-local.field-0.0) (parse_local c.in_ok-dev.after_dev.now) (parse_parts c.args.epoch c.args.release c.args.text.now) (λ f e. local_rejected c.args.epoch c.args.release c.args.text.now c.in_ok-pre.after_pre.now c.in_ok-post.after_post.now c.in_ok-dev.after_dev.now c.in_ok-pre.pre c.in_ok-post.post c.in_ok-dev.dev f c.in_ok-pre.ensures.reads c.in_ok-post.ensures.reads c.in_ok-dev.ensures.reads e) c.in_err-local.ensures.reads)

pub returns-in_err-pre-clause-memory : goal.returns-in_err-pre-clause-memory
returns-in_err-pre-clause-memory c = λ x e fits.
    let p = pre_too c.args.epoch c.args.release c.args.text.now x e in
    cc (c.in_err-pre.ensures.memory p.0 p.1)

pub returns-in_err-post-clause-memory : goal.returns-in_err-post-clause-memory
returns-in_err-post-clause-memory c = λ x e fits.
    let q = post_too c.args.epoch c.args.release c.args.text.now c.in_ok-pre.after_pre.now c.in_ok-pre.pre x c.in_ok-pre.ensures.reads e in
    cc (c.in_err-post.ensures.memory q.0 q.1)

pub returns-in_err-local-clause-memory : goal.returns-in_err-local-clause-memory
returns-in_err-local-clause-memory c = λ x e fits.
    let l = local_too c.args.epoch c.args.release c.args.text.now c.in_ok-pre.after_pre.now c.in_ok-post.after_post.now c.in_ok-dev.after_dev.now c.in_ok-pre.pre c.in_ok-post.post c.in_ok-dev.dev x
    c.in_ok-pre.ensures.reads c.in_ok-post.ensures.reads c.in_ok-dev.ensures.reads e in
    cc (c.in_err-local.ensures.memory l.0 l.1 (no_local x.0 l.0.0 l.2 fits))

pub from_parts-requires-clause-fits : goal.from_parts-requires-clause-fits
from_parts-requires-clause-fits c =
    let l = local_takes c.in_ok-dev.after_dev.now (map segment c.in_ok-local.local.items, c.in_ok-local.rest.now) c.in_ok-local.ensures.reads in
    (local_is l.0 (map segment c.in_ok-local.local.items) l.1).0
