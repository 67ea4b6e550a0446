mod Reports
mod Tokens
mod Turns
mod Visible
