use Rattle.std.proofs.Common.{ℕ, ◌≤◌, ◌+◌, arith, rules, refl, ◌∙◌, subst, sym, length, take, List, length-append, length-take}
use Rattle.mail_server.specs.Run.{HasRead, ReadsSome}
use Rattle.mail_server.proofs.Transfers.{HasRead-none, HasRead-more, ReadsSome-more, OnErr-always}
use Rattle.mail_server.proofs.streams.read_pieces.Goals as goal

pub returns-in_err-read_piece-clause-part : goal.returns-in_err-read_piece-clause-part
returns-in_err-read_piece-clause-part g c =
    OnErr-always c.from_residual.result (ReadsSome (c.args.limit + 1) (g.S.Source.left c.args.source.now) (g.S.Source.left c.read_piece.new.source))
    (ReadsSome-more (c.args.limit + 1) (length (take c.min-room.result c.pieces.buffer)) c.pieces.bytes.items (g.S.Source.left c.args.source.now) (g.S.Source.left c.pieces.source) (g.S.Source.left c.read_piece.new.source)
    c.pieces.invariant.taken (omega (arith, length-take c.min-room.result c.pieces.buffer, c.pieces.invariant.within)) c.in_err-read_piece.ensures.part)

pub pieces-init : goal.pieces-init
pieces-init g c = record {
  within = search rules;
  taken = subst (λ (bytes : List ℕ). HasRead bytes (g.S.Source.left c.args.source.now) (g.S.Source.left c.args.source.now)) (sym c.requires.empty) (HasRead-none (g.S.Source.left c.args.source.now));
  quiet = refl;
}

pub pieces-preserved : goal.pieces-preserved
pieces-preserved g c =
    let added : length c.read_piece.new.bytes.items ≤ length c.pieces.bytes.items + c.in_ok-read_piece.field-0 =
    subst (λ (bytes : List ℕ). length bytes ≤ length c.pieces.bytes.items + c.in_ok-read_piece.field-0) (sym c.in_ok-read_piece.ensures.added)
    (omega (arith, length-append c.pieces.bytes.items (take c.in_ok-read_piece.field-0 c.read_piece.new.buffer), length-take c.in_ok-read_piece.field-0 c.read_piece.new.buffer)) in
    record {
      within = omega (arith, added, c.in_ok-read_piece.ensures.within, length-take c.min-room.result c.pieces.buffer, c.pieces.invariant.within);
      taken = subst (λ (bytes : List ℕ). HasRead bytes (g.S.Source.left c.args.source.now) (g.S.Source.left c.read_piece.new.source)) (sym c.in_ok-read_piece.ensures.added)
          (HasRead-more c.pieces.bytes.items (take c.in_ok-read_piece.field-0 c.read_piece.new.buffer) (g.S.Source.left c.args.source.now) (g.S.Source.left c.pieces.source) (g.S.Source.left c.read_piece.new.source) c.pieces.invariant.taken c.in_ok-read_piece.ensures.taken);
      quiet = c.in_ok-read_piece.ensures.quiet ∙ c.pieces.invariant.quiet;
    }
