mod Items
mod Payloads
