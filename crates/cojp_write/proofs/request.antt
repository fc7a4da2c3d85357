mod Roles
mod Requests
mod Plans
