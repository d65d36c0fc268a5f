use Rattle.book.specs.Layout.{layout_of}
use Rattle.book.proofs.Order.{tells_size, tells_header, tells_rows, tells_none}
use Rattle.book.proofs.First.{verdict_err, verdict_ok, first_is_told, only_told}
use Rattle.book.proofs.checking.check.Goals as goal

pub returns-in_err-check_size : goal.returns-in_err-check_size
returns-in_err-check_size c =
    let b = c.args.bytes.now in
    let v =
    verdict_err b c.from_residual.result _ c.from_residual.ensures.1
    (tells_size b (layout_of b) _ c.in_err-check_size.ensures) in
    record { value = v; first = first_is_told b _ v; only = only_told b _ v }

pub returns-in_err-layout : goal.returns-in_err-layout
returns-in_err-layout c =
    let b = c.args.bytes.now in
    let v =
    verdict_err b c.from_residual-in_err-layout.result _ c.from_residual-in_err-layout.ensures.1
    (tells_header b (layout_of b) _ c.in_ok-check_size.ensures c.in_err-layout.ensures.told) in
    record { value = v; first = first_is_told b _ v; only = only_told b _ v }

pub returns-in_err-check_rows : goal.returns-in_err-check_rows
returns-in_err-check_rows c =
    let b = c.args.bytes.now in
    let v =
    verdict_err b c.from_residual-in_err-check_rows.result _ c.from_residual-in_err-check_rows.ensures.1
    (tells_rows b c.in_ok-layout.layout (layout_of b) _ c.in_ok-layout.ensures.layout
    c.in_ok-check_size.ensures c.in_ok-layout.ensures.told c.in_err-check_rows.ensures) in
    record { value = v; first = first_is_told b _ v; only = only_told b _ v }

pub returns : goal.returns
returns c =
    let b = c.args.bytes.now in
    let v =
    verdict_ok b c.in_ok-layout.layout c.in_ok-layout.ensures.layout
    (tells_none b c.in_ok-layout.layout (layout_of b) c.in_ok-layout.ensures.layout
    c.in_ok-check_size.ensures c.in_ok-layout.ensures.told c.in_ok-check_rows.ensures) in
    record { value = v; first = first_is_told b _ v; only = only_told b _ v }
